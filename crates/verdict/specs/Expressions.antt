-- The verdict on an expression, and on the end of a loop.
use Rattle.std.specs.Prelude.{ℕ, zero, suc, Bool, true, false, ◌&&◌, List, [], ◌∷◌, ◌++◌, replicate}
use Rattle.values.specs.declared.refusal.Refusal.TheVariants.{Strange, Deep, Clash}
use Rattle.values.specs.Rows.{used}
use Rattle.language.specs.declared.merge.Merge.{Merge}
use Rattle.language.specs.declared.node.Leaf.{Leaf}
use Rattle.language.specs.declared.node.Leaf.TheVariants as leaf
use Rattle.language.specs.declared.node.One.{One}
use Rattle.language.specs.declared.node.One.TheVariants as one
use Rattle.language.specs.declared.node.Two.{Two}
use Rattle.language.specs.declared.node.Two.TheVariants as two
use Rattle.language.specs.Syntax.{Expr, LoopEnd, list, integer, boolean, error, name, unary, binary, if, let_in, tagcase, for, forall, call, record_of, field, union, array, element, iter, done, if_end, let_end, tagcase_end}
use Rattle.language.specs.Sorts.{same, merged_type}
use Rattle.language.specs.Typing.{Context}
use Rattle.verdict.specs.declared.kinds.Sort.{Sort}
use Rattle.verdict.specs.declared.kinds.Sort.TheVariants as sort
use Rattle.verdict.specs.declared.kinds.Head.{Head}
use Rattle.verdict.specs.declared.kinds.Head.TheVariants as head
use Rattle.verdict.specs.Outcomes.{Out, accepted, refused, after, judged, each}
use Rattle.verdict.specs.Bodies.{sorts, end_sorts, kind_at, head_at}
use Rattle.verdict.specs.Judging.{Typed, typed, judge_one, judge_two, bound, arms_of, singles, firsts, agree, first_types, trees, ends}

-- The trees of records with no part, one and two.
abbrev pub leaf_tree : Leaf → Expr
leaf_tree (leaf.Integer n) = integer n
leaf_tree (leaf.Boolean b) = boolean b
leaf_tree (leaf.Error f t) = error f t
leaf_tree (leaf.Name n) = name n

abbrev pub one_tree : One → Expr → Expr
one_tree (one.Unary op) e = unary op e
one_tree (one.Call f) e = call f e
one_tree (one.Record t) e = record_of t e
one_tree (one.Field n) e = field n e
one_tree (one.Union t tag) e = union t tag e

abbrev pub two_tree : Two → Expr → Expr → Expr
two_tree (two.Binary op) a b = binary op a b
two_tree (two.Array t) a b = array t a b
two_tree two.Element a b = element a b

-- What reads an expression under names from a place on, and what reads the end of a loop with so many results' types
-- and the types of the loop's own names.
abbrev pub Reads : Type 0
Reads = List ℕ → ℕ → Out Typed

abbrev pub Ends : Type 0
Ends = List ℕ → List ℕ → List ℕ → ℕ → Out LoopEnd

-- The record at p, its parts beginning at q, by what it says before them.
abbrev pub one_at : Context → Reads → One → List ℕ → ℕ → ℕ → Out Typed
one_at C ex o Γ p q = after (ex Γ q) λ a r. after (judge_one C o a.types p r) λ ts s. accepted (typed (one_tree o a.tree) ts) s

abbrev pub two_at : Context → Reads → Two → List ℕ → ℕ → ℕ → Out Typed
two_at C ex o Γ p q =
    after (ex Γ q) λ a r. after (ex Γ r) λ b s. after (judge_two C o a.types b.types p s) λ ts u.
    accepted (typed (two_tree o a.tree b.tree) ts) u

abbrev pub members_at : Reads → ℕ → List ℕ → ℕ → Out (List Typed)
members_at ex n Γ q = each (λ (_ : Unit {0}) r. ex Γ r) (replicate n tt) q

abbrev pub list_at : Reads → ℕ → List ℕ → ℕ → ℕ → Out Typed
list_at ex n Γ p q =
    after (members_at ex n Γ q) λ xs r. judged (Clash p) (singles xs) (typed (list (trees xs)) (firsts xs)) r

abbrev pub if_at : Reads → List ℕ → ℕ → ℕ → Out Typed
if_at ex Γ p q =
    after (ex Γ q) λ c r. after (ex Γ r) λ a s. after (ex Γ s) λ b u.
    judged (Clash p) (same (0 ∷ []) c.types && same a.types b.types) (typed (if c.tree a.tree b.tree) a.types) u

abbrev pub let_at : Reads → List ℕ → ℕ → ℕ → Out Typed
let_at ex Γ p q =
    after (ex Γ q) λ d r. after (bound Γ d.types p r) λ Δ s. after (ex Δ s) λ b u.
    accepted (typed (let_in d.tree b.tree) b.types) u

abbrev pub arms_at : Reads → List ℕ → List ℕ → ℕ → Out (List Typed)
arms_at ex us Γ q = each (λ u r. ex (Γ ++ u ∷ []) r) us q

-- The test and the number of arms are judged before the arms.
abbrev pub tagcase_at : Context → Reads → ℕ → List ℕ → ℕ → ℕ → Out Typed
tagcase_at C ex n Γ p q =
    after (ex Γ q) λ c r. after (arms_of C n c.types p r) λ us s. after (bound Γ (0 ∷ []) p s) λ _ v.
    after (arms_at ex us Γ v) λ xs u.
    judged (Clash p) (agree (first_types xs) xs) (typed (tagcase c.tree (trees xs)) (first_types xs)) u

abbrev pub for_at : Reads → Ends → List ℕ → List ℕ → ℕ → ℕ → Out Typed
for_at ex en ts Γ p q =
    after (ex Γ q) λ i r. after (bound Γ i.types p r) λ Δ s. after (en ts i.types Δ s) λ l u.
    accepted (typed (for ts i.tree l) ts) u

abbrev pub forall_at : Reads → Merge → ℕ → List ℕ → ℕ → ℕ → Out Typed
forall_at ex m t Γ p q =
    after (ex Γ q) λ a r. after (ex Γ r) λ b s. after (bound Γ (1 ∷ []) p s) λ Δ u. after (ex Δ u) λ c v.
    judged (Clash p) (same (1 ∷ []) a.types && (same (1 ∷ []) b.types && same (t ∷ []) c.types))
    (typed (forall m a.tree b.tree c.tree) (merged_type m ∷ [])) v

abbrev pub parts_at : Context → Reads → Ends → Head → List ℕ → ℕ → ℕ → Out Typed
parts_at C ex en (head.Leaf l t) Γ p q = accepted (typed (leaf_tree l) (t ∷ [])) q
parts_at C ex en (head.One o) Γ p q = one_at C ex o Γ p q
parts_at C ex en (head.Two o) Γ p q = two_at C ex o Γ p q
parts_at C ex en (head.List n) Γ p q = list_at ex n Γ p q
parts_at C ex en head.If Γ p q = if_at ex Γ p q
parts_at C ex en head.Let Γ p q = let_at ex Γ p q
parts_at C ex en (head.Tagcase n) Γ p q = tagcase_at C ex n Γ p q
parts_at C ex en (head.For m) Γ p q = for_at ex en (used m) Γ p q
parts_at C ex en (head.Forall m t) Γ p q = forall_at ex m t Γ p q
parts_at C ex en head.Iter Γ p q = refused (Strange p)

-- The same at the end of a loop. An if, let or tagcase there has ends for its arms or body.
abbrev pub iter_at : Reads → List ℕ → List ℕ → ℕ → ℕ → Out LoopEnd
iter_at ex again Γ p q = after (ex Γ q) λ a r. judged (Clash p) (same again a.types) (iter a.tree) r

abbrev pub if_end_at : Reads → Ends → List ℕ → List ℕ → List ℕ → ℕ → ℕ → Out LoopEnd
if_end_at ex en ts again Γ p q =
    after (ex Γ q) λ c r. after (en ts again Γ r) λ a s. after (en ts again Γ s) λ b u.
    judged (Clash p) (same (0 ∷ []) c.types) (if_end c.tree a b) u

abbrev pub let_end_at : Reads → Ends → List ℕ → List ℕ → List ℕ → ℕ → ℕ → Out LoopEnd
let_end_at ex en ts again Γ p q =
    after (ex Γ q) λ d r. after (bound Γ d.types p r) λ Δ s. after (en ts again Δ s) λ b u. accepted (let_end d.tree b) u

abbrev pub ends_at : Ends → List ℕ → List ℕ → List ℕ → List ℕ → ℕ → Out (List LoopEnd)
ends_at en ts again us Γ q = each (λ u r. en ts again (Γ ++ u ∷ []) r) us q

abbrev pub tagcase_end_at : Context → Reads → Ends → ℕ → List ℕ → List ℕ → List ℕ → ℕ → ℕ → Out LoopEnd
tagcase_end_at C ex en n ts again Γ p q =
    after (ex Γ q) λ c r. after (arms_of C n c.types p r) λ us s. after (bound Γ (0 ∷ []) p s) λ _ v.
    after (ends_at en ts again us Γ v) λ ls u. accepted (tagcase_end c.tree (ends ls)) u

abbrev pub end_parts_at : Context → Reads → Ends → Head → List ℕ → List ℕ → List ℕ → ℕ → ℕ → Out LoopEnd
end_parts_at C ex en (head.Leaf l t) ts again Γ p q = refused (Strange p)
end_parts_at C ex en (head.One o) ts again Γ p q = refused (Strange p)
end_parts_at C ex en (head.Two o) ts again Γ p q = refused (Strange p)
end_parts_at C ex en (head.List n) ts again Γ p q = refused (Strange p)
end_parts_at C ex en head.If ts again Γ p q = if_end_at ex en ts again Γ p q
end_parts_at C ex en head.Let ts again Γ p q = let_end_at ex en ts again Γ p q
end_parts_at C ex en (head.Tagcase n) ts again Γ p q = tagcase_end_at C ex en n ts again Γ p q
end_parts_at C ex en (head.For m) ts again Γ p q = refused (Strange p)
end_parts_at C ex en (head.Forall m t) ts again Γ p q = refused (Strange p)
end_parts_at C ex en head.Iter ts again Γ p q = iter_at ex again Γ p q

-- An expression as the end of a loop has the loop's results, judged at its own record.
abbrev pub done_at : List ℕ → ℕ → Out Typed → Out LoopEnd
done_at ts p o = after o λ a q. judged (Clash p) (same ts a.types) (done a.tree) q

-- Whether a record of this kind at the end of a loop is an end itself, and no expression.
abbrev pub goes_on : Sort → Bool
goes_on sort.List = false
goes_on sort.Integer = false
goes_on sort.Boolean = false
goes_on sort.Error = false
goes_on sort.Name = false
goes_on sort.Operation = false
goes_on sort.If = true
goes_on sort.Let = true
goes_on sort.Tagcase = true
goes_on sort.For = false
goes_on sort.Iter = true
goes_on sort.Forall = false
goes_on sort.Call = false
goes_on sort.Record = false
goes_on sort.Field = false
goes_on sort.Union = false
goes_on sort.Array = false
goes_on sort.Element = false

-- The record at p by its kind.
abbrev pub record_at : Context → List ℕ → Reads → Ends → Sort → List ℕ → ℕ → Out Typed
record_at C bs ex en k Γ p = after (head_at C bs Γ k p) λ h q. parts_at C ex en h Γ p q

abbrev pub end_record_at : Bool → Context → List ℕ → Reads → Ends → Sort → List ℕ → List ℕ → List ℕ → ℕ → Out LoopEnd
end_record_at true C bs ex en k ts again Γ p = after (head_at C bs Γ k p) λ h q. end_parts_at C ex en h ts again Γ p q
end_record_at false C bs ex en k ts again Γ p = done_at ts p (record_at C bs ex en k Γ p)

-- `room` is how many more records may be opened.
unfoldable mutual
  pub expr : Context → (room : ℕ) → List ℕ → Reads
  expr C zero bs Γ p = after (kind_at sorts bs p) λ k _. refused (Deep p)
  expr C (suc room) bs Γ p = after (kind_at sorts bs p) λ k _. record_at C bs (expr C room bs) (end C room bs) k Γ p

  pub end : Context → (room : ℕ) → List ℕ → Ends
  end C zero bs ts again Γ p = after (kind_at end_sorts bs p) λ k _. refused (Deep p)
  end C (suc room) bs ts again Γ p =
      after (kind_at end_sorts bs p) λ k _. end_record_at (goes_on k) C bs (expr C room bs) (end C room bs) k ts again Γ p
