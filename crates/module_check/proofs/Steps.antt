-- The steps of reading: what a function has read where its parts were read.
use Rattle.std.proofs.Common.{◌≡◌, ℕ, zero, suc, ◌+◌, ◌-◌, ◌<◌, ◌≤◌, Bool, true, false, cond, ◌&&◌, eqb, leb, List, [], ◌∷◌, ◌++◌, length, get_or, set, Some, Ok, Err, Result, sym, refl, ap, ◌∙◌, subst, ap₂, sub-one, arith, length-append}
use Rattle.std.specs.List.{slice_get}
use Rattle.std.proofs.lemmas.List.{append_assoc, append-nil, set_at}
use Rattle.std.proofs.lemmas.Bool.Decides.{nat_tests}
use Rattle.std.proofs.lemmas.Bool.{le-leb, true≢false}
use Rattle.values.specs.declared.refusal.Refusal.{Refusal}
use Rattle.values.specs.declared.members.Members.{Members}
use Rattle.values.specs.declared.refusal.Refusal.TheVariants.{Strange, Deep, Clash, Undeclared}
use Rattle.values.specs.Rows.{used}
use Rattle.language.specs.declared.merge.Merge.{Merge}
use Rattle.language.specs.declared.node.Leaf.{Leaf}
use Rattle.language.specs.declared.node.Leaf.TheVariants as leaf
use Rattle.language.specs.declared.node.One.{One}
use Rattle.language.specs.declared.node.One.TheVariants as one
use Rattle.language.specs.declared.node.Two.{Two}
use Rattle.language.specs.declared.node.Two.TheVariants as two
use Rattle.language.specs.declared.node.Kind.{Kind}
use Rattle.language.specs.declared.node.Kind.TheVariants as kind
use Rattle.language.specs.declared.node.Block.TheVariants as block
use Rattle.language.specs.declared.node.End.TheVariants as close
use Rattle.language.specs.declared.node.Node.{Node}
use Rattle.language.specs.Syntax.{Expr, LoopEnd, if, let_in, tagcase, for, forall, iter, done, if_end, let_end, tagcase_end, count, count_ends, arity, arity_first}
use Rattle.language.specs.Sorts.{same, merged_type, fields_of, element_of}
use Rattle.language.specs.Typing.{Context, Signature, result_counts}
use Rattle.language.specs.Tables.{node, flat, flat_all, flat_end, flat_ends}
use Rattle.verdict.specs.declared.kinds.Sort.{Sort}
use Rattle.verdict.specs.declared.kinds.Sort.TheVariants as sort
use Rattle.verdict.specs.declared.kinds.Head.{Head}
use Rattle.verdict.specs.declared.kinds.Head.TheVariants as head
use Rattle.verdict.specs.Outcomes.{Out, accepted, refused, after, found, first_at, lookup}
use Rattle.verdict.specs.Bodies.{sorts, end_sorts, kind_at, head_at}
use Rattle.verdict.specs.Judging.{Typed, typed, judge_one, judge_two, bound, arms_of, agree, first_types, trees, ends, parameters_in, results_in, single, of_one, matches}
use Rattle.verdict.specs.Expressions.{leaf_tree, one_tree, two_tree, Reads, Ends, one_at, two_at, if_at, let_at, arms_at, tagcase_at, for_at, forall_at, parts_at, iter_at, if_end_at, let_end_at, ends_at, tagcase_end_at, end_parts_at, done_at, goes_on, record_at, end_record_at, expr, end}
use Rattle.verdict.proofs.Spans.{after_inv, accepted_inv, judged_inv, found_inv, not_none}
use Rattle.verdict.proofs.Sames.{same_refl, matches_inv, parameters_inv}
use Rattle.verdict.proofs.Sound.{arms_inv, count_trees, count_these}
use Rattle.module_check.specs.Reading.{Declines, Fit, Judged, ExprRead, PartsRead, ArmsRead, AskedRead, EndRead, EndPartsRead, EndsRead}
use Rattle.module_check.proofs.Facts.{declines_after, judged_else}

-- Nodes that grow.
pub grown₂ : (l x y : List Node) {m n : List Node} → m ≡ l ++ x → n ≡ m ++ y → n ≡ l ++ (x ++ y)
grown₂ l x y p q = q ∙ (ap (λ z. z ++ y) p ∙ append_assoc l x y)

pub grown₃ : (l x y z : List Node) {m n o : List Node} → m ≡ l ++ x → n ≡ m ++ y → o ≡ n ++ z → o ≡ l ++ (x ++ (y ++ z))
grown₃ l x y z {m} p q r = grown₂ l x (y ++ z) p (grown₂ m y z q r)

-- A node that is noted, grown under and completed.
pub closed : (k j : Kind) (l m n below : List Node) (here span : ℕ) (o : List Node) → here ≡ length l → m ≡ l ++ record { kind = j; span = 0 } ∷ [] → n ≡ m ++ below → span ≡ length n - here → o ≡ set n here (record { kind = k; span = span }) → o ≡ l ++ node k below
closed k j l m n below here span o h p q w e =
    let long : length n ≡ length l + (length below + 1) = simp (q, p, length-append) (omega arith) in
    let sp : span ≡ length below + 1 = omega arith in
    let place : n ≡ l ++ (record { kind = j; span = 0 } ∷ below) = simp (q, p, append_assoc) in
    e ∙ (ap (λ z. set z here (record { kind = k; span = span })) place ∙ (set_at l (record { kind = j; span = 0 }) below (record { kind = k; span = span }) here (sym h) ∙ ap (λ z. l ++ (record { kind = k; span = z } ∷ below)) sp))

-- A record with room, and one without.
module _ (C : Context) (bs Γ : List ℕ) (p : ℕ) where
  pub expr_unread : (room : ℕ) (e : Refusal) → Declines (kind_at sorts bs p) e → Declines (expr C room bs Γ p) e
  unfolding expr end
  expr_unread zero e h = declines_after (kind_at sorts bs p) (λ k _. refused (Deep p)) e h
  expr_unread (suc room) e h = declines_after (kind_at sorts bs p) (λ k _. record_at C bs (expr C room bs) (end C room bs) k Γ p) e h

  pub expr_deep : (room q : ℕ) (k : Sort) → room ≡ 0 → kind_at sorts bs p ≡ accepted k q → expr C room bs Γ p ≡ refused (Deep p)
  unfolding expr end
  expr_deep room q k z e = rw (z, e)

  pub expr_opens : (room q : ℕ) (k : Sort) → 0 < room → kind_at sorts bs p ≡ accepted k q → expr C room bs Γ p ≡ record_at C bs (expr C (room - 1) bs) (end C (room - 1) bs) k Γ p
  unfolding expr end
  expr_opens zero q k h e = absurd (omega arith)
  expr_opens (suc room) q k h e = rw (sub-one, e)

  pub expr_headless : (room q : ℕ) (k : Sort) (e : Refusal) → 0 < room → kind_at sorts bs p ≡ accepted k q → Declines (head_at C bs Γ k p) e → Declines (expr C room bs Γ p) e
  expr_headless room q k e h x d = subst (λ o. Declines o e) (sym (expr_opens room q k h x)) (declines_after (head_at C bs Γ k p) _ e d)

  pub expr_parts : (room q : ℕ) (k : Sort) (h : Head) (r : ℕ) → 0 < room → kind_at sorts bs p ≡ accepted k q → head_at C bs Γ k p ≡ accepted h r → expr C room bs Γ p ≡ parts_at C (expr C (room - 1) bs) (end C (room - 1) bs) h Γ p r
  expr_parts room q k h r pos x y = expr_opens room q k pos x ∙ ap (λ o. after o (λ g s. parts_at C (expr C (room - 1) bs) (end C (room - 1) bs) g Γ p s)) y

  module _ (ts again : List ℕ) where
    pub end_unread : (room : ℕ) (e : Refusal) → Declines (kind_at end_sorts bs p) e → Declines (end C room bs ts again Γ p) e
    unfolding expr end
    end_unread zero e h = declines_after (kind_at end_sorts bs p) (λ k _. refused (Deep p)) e h
    end_unread (suc room) e h = declines_after (kind_at end_sorts bs p) (λ k _. end_record_at (goes_on k) C bs (expr C room bs) (end C room bs) k ts again Γ p) e h

    pub end_deep : (room q : ℕ) (k : Sort) → room ≡ 0 → kind_at end_sorts bs p ≡ accepted k q → end C room bs ts again Γ p ≡ refused (Deep p)
    unfolding expr end
    end_deep room q k z e = rw (z, e)

    pub end_opens : (room q : ℕ) (k : Sort) → 0 < room → kind_at end_sorts bs p ≡ accepted k q → goes_on k ≡ true → end C room bs ts again Γ p ≡ after (head_at C bs Γ k p) (λ h r. end_parts_at C (expr C (room - 1) bs) (end C (room - 1) bs) h ts again Γ p r)
    unfolding expr end
    end_opens zero q k h e g = absurd (omega arith)
    end_opens (suc room) q k h e g = rw (sub-one, e, g)

    pub end_headless : (room q : ℕ) (k : Sort) (e : Refusal) → 0 < room → kind_at end_sorts bs p ≡ accepted k q → goes_on k ≡ true → Declines (head_at C bs Γ k p) e → Declines (end C room bs ts again Γ p) e
    end_headless room q k e h x g d = subst (λ o. Declines o e) (sym (end_opens room q k h x g)) (declines_after (head_at C bs Γ k p) _ e d)

    pub end_parts : (room q : ℕ) (k : Sort) (h : Head) (r : ℕ) → 0 < room → kind_at end_sorts bs p ≡ accepted k q → goes_on k ≡ true → head_at C bs Γ k p ≡ accepted h r → end C room bs ts again Γ p ≡ end_parts_at C (expr C (room - 1) bs) (end C (room - 1) bs) h ts again Γ p r
    end_parts room q k h r pos x g y = end_opens room q k pos x g ∙ ap (λ o. after o (λ f s. end_parts_at C (expr C (room - 1) bs) (end C (room - 1) bs) f ts again Γ p s)) y

-- A list that was read has two to eight members.
listed : (C : Context) (bs Γ : List ℕ) (p : ℕ) (k : Sort) (n q : ℕ) → head_at C bs Γ k p ≡ accepted (head.List n) q → (2 ≤ n) × (n ≤ 8)
listed C bs Γ p sort.List n q e = grind (arith, nat_tests)
listed C bs Γ p sort.Integer n q e = grind (arith, nat_tests)
listed C bs Γ p sort.Boolean n q e = grind (arith, nat_tests)
listed C bs Γ p sort.Error n q e = grind (arith, nat_tests)
listed C bs Γ p sort.Name n q e = grind (arith, nat_tests)
listed C bs Γ p sort.Operation n q e = grind (arith, nat_tests)
listed C bs Γ p sort.If n q e = grind (arith, nat_tests)
listed C bs Γ p sort.Let n q e = grind (arith, nat_tests)
listed C bs Γ p sort.Tagcase n q e = grind (arith, nat_tests)
listed C bs Γ p sort.For n q e = grind (arith, nat_tests)
listed C bs Γ p sort.Iter n q e = grind (arith, nat_tests)
listed C bs Γ p sort.Forall n q e = grind (arith, nat_tests)
listed C bs Γ p sort.Call n q e = grind (arith, nat_tests)
listed C bs Γ p sort.Record n q e = grind (arith, nat_tests)
listed C bs Γ p sort.Field n q e = grind (arith, nat_tests)
listed C bs Γ p sort.Union n q e = grind (arith, nat_tests)
listed C bs Γ p sort.Array n q e = grind (arith, nat_tests)
listed C bs Γ p sort.Element n q e = grind (arith, nat_tests)

pub fit : (C : Context) (bs Γ : List ℕ) (p : ℕ) (k : Sort) (h : Head) (q : ℕ) → head_at C bs Γ k p ≡ accepted h q → Fit h
fit C bs Γ p k (head.Leaf l t) q e = tt
fit C bs Γ p k (head.One o) q e = tt
fit C bs Γ p k (head.Two o) q e = tt
fit C bs Γ p k (head.List n) q e = listed C bs Γ p k n q e
fit C bs Γ p k head.If q e = tt
fit C bs Γ p k head.Let q e = tt
fit C bs Γ p k (head.Tagcase n) q e = tt
fit C bs Γ p k (head.For m) q e = tt
fit C bs Γ p k (head.Forall m t) q e = tt
fit C bs Γ p k head.Iter q e = tt

-- Leaves, and records with one part or two.
leaf_noted : (counts : List ℕ) (l : Leaf) → flat counts (leaf_tree l) ≡ node (kind.Leaf l) []
unfolding flat
leaf_noted counts (leaf.Integer n) = refl
leaf_noted counts (leaf.Boolean b) = refl
leaf_noted counts (leaf.Error f u) = refl
leaf_noted counts (leaf.Name n) = refl

leaf_arity : (counts : List ℕ) (l : Leaf) → arity counts (leaf_tree l) ≡ 1
unfolding arity
leaf_arity counts (leaf.Integer n) = refl
leaf_arity counts (leaf.Boolean b) = refl
leaf_arity counts (leaf.Error f u) = refl
leaf_arity counts (leaf.Name n) = refl

pub leaf_read : (counts : List ℕ) (C : Context) (ex : Reads) (en : Ends) (Γ : List ℕ) (p q : ℕ) (l : Leaf) (t : ℕ) (m : Members) (before : List Node) → used m ≡ t ∷ [] → PartsRead counts (head.Leaf l t) (parts_at C ex en (head.Leaf l t) Γ p q) before before q (Ok m)
leaf_read counts C ex en Γ p q l t m before e =
    (leaf_tree l, [], ap (λ z. accepted (typed (leaf_tree l) z) q) (sym e), leaf_noted counts l, sym (append-nil before), leaf_arity counts l ∙ ap length (sym e))

counts_at : (ss : List Signature) (f : ℕ) (s : Signature) → slice_get ss f ≡ Some s → get_or (result_counts ss) f 1 ≡ length s.results
counts_at [] f s h = absurd (not_none s h)
counts_at (r ∷ ss) zero s h = let i : r ≡ s = cc in ap (λ (z : Signature). length z.results) i
counts_at (r ∷ ss) (suc f) s h = counts_at ss f s h

one_noted : (counts : List ℕ) (o : One) (e : Expr) → flat counts (one_tree o e) ≡ node (kind.One o) (flat counts e)
unfolding flat
one_noted counts (one.Unary op) e = refl
one_noted counts (one.Call f) e = refl
one_noted counts (one.Record t) e = refl
one_noted counts (one.Field n) e = refl
one_noted counts (one.Union t tag) e = refl

one_arity : (C : Context) (o : One) (e : Expr) (us : List ℕ) (p q : ℕ) (ts : List ℕ) (r : ℕ) → judge_one C o us p q ≡ accepted ts r → arity (result_counts C.callees) (one_tree o e) ≡ length ts
unfolding arity
one_arity C (one.Unary op) e us p q ts r h =
    let x = after_inv (found (Clash p) (single us) q) _ ts r h in
    ap length (judged_inv (Clash p) _ _ x.1 ts r x.3).1
one_arity C (one.Call f) e us p q ts r h =
    let j = judged_inv (Clash p) (matches (parameters_in (slice_get C.callees f)) us) (results_in (slice_get C.callees f)) q ts r h in
    let s = parameters_inv (slice_get C.callees f) us (matches_inv _ us j.0) in
    counts_at C.callees f s.0 s.1 ∙ ap length (sym (ap results_in s.1) ∙ j.1)
one_arity C (one.Record n) e us p q ts r h = ap length (judged_inv (Clash p) _ _ q ts r h).1
one_arity C (one.Field n) e us p q ts r h =
    let x = after_inv (found (Clash p) (of_one (fields_of C.rows) us) q) _ ts r h in
    let y = after_inv (found (Undeclared p) (slice_get x.0 n) x.1) _ ts r x.3 in
    ap length (accepted_inv (y.0 ∷ []) ts y.1 r y.3).0
one_arity C (one.Union n tag) e us p q ts r h = ap length (judged_inv (Clash p) _ _ q ts r h).1

pub one_read : (C : Context) (ex : Reads) (Γ : List ℕ) (p q : ℕ) (o : One) (e : Expr) (us : List ℕ) (m : Members) (r : ℕ) (before behind : List Node) → ex Γ q ≡ accepted (typed e us) r → judge_one C o us p r ≡ accepted (used m) r → behind ≡ before ++ flat (result_counts C.callees) e → PartsRead (result_counts C.callees) (head.One o) (one_at C ex o Γ p q) before behind r (Ok m)
one_read C ex Γ p q o e us m r before behind x j n =
    (one_tree o e, flat (result_counts C.callees) e, rw (x, j), one_noted (result_counts C.callees) o e, n, one_arity C o e us p r (used m) r j)

pub one_judged : (C : Context) (ex : Reads) (Γ : List ℕ) (p q : ℕ) (o : One) (e : Expr) (us : List ℕ) (r : ℕ) (before behind : List Node) (result : Result Members Refusal) → ex Γ q ≡ accepted (typed e us) r → Judged (judge_one C o us p) result → behind ≡ before ++ flat (result_counts C.callees) e → PartsRead (result_counts C.callees) (head.One o) (one_at C ex o Γ p q) before behind r result
one_judged C ex Γ p q o e us r before behind (Ok m) x j n = one_read C ex Γ p q o e us m r before behind x (j r) n
one_judged C ex Γ p q o e us r before behind (Err w) x d n = rw x (declines_after (judge_one C o us p r) _ w (d r))

two_noted : (counts : List ℕ) (o : Two) (a b : Expr) → flat counts (two_tree o a b) ≡ node (kind.Two o) (flat counts a ++ flat counts b)
unfolding flat
two_noted counts (two.Binary op) a b = refl
two_noted counts (two.Array t) a b = refl
two_noted counts two.Element a b = refl

two_arity : (counts : List ℕ) (C : Context) (o : Two) (a b : Expr) (us vs : List ℕ) (p q : ℕ) (ts : List ℕ) (r : ℕ) → judge_two C o us vs p q ≡ accepted ts r → arity counts (two_tree o a b) ≡ length ts
unfolding arity
two_arity counts C (two.Binary op) a b us vs p q ts r h = ap length (judged_inv (Clash p) _ _ q ts r h).1
two_arity counts C (two.Array t) a b us vs p q ts r h = ap length (judged_inv (Clash p) _ _ q ts r h).1
two_arity counts C two.Element a b us vs p q ts r h =
    let x = after_inv (found (Clash p) (of_one (element_of C.rows) us) q) _ ts r h in
    ap length (judged_inv (Clash p) (same (1 ∷ []) vs) (x.0 ∷ []) x.1 ts r x.3).1

pub two_read : (counts : List ℕ) (C : Context) (ex : Reads) (Γ : List ℕ) (p q : ℕ) (o : Two) (a b : Expr) (us vs : List ℕ) (m : Members) (r s : ℕ) (before middle behind : List Node) → ex Γ q ≡ accepted (typed a us) r → ex Γ r ≡ accepted (typed b vs) s → judge_two C o us vs p s ≡ accepted (used m) s → middle ≡ before ++ flat counts a → behind ≡ middle ++ flat counts b → PartsRead counts (head.Two o) (two_at C ex o Γ p q) before behind s (Ok m)
two_read counts C ex Γ p q o a b us vs m r s before middle behind x y j n k =
    (two_tree o a b, flat counts a ++ flat counts b, rw (x, y, j), two_noted counts o a b, grown₂ before (flat counts a) (flat counts b) n k, two_arity counts C o a b us vs p s (used m) s j)

pub two_judged : (counts : List ℕ) (C : Context) (ex : Reads) (Γ : List ℕ) (p q : ℕ) (o : Two) (a b : Expr) (us vs : List ℕ) (r s : ℕ) (before middle behind : List Node) (result : Result Members Refusal) → ex Γ q ≡ accepted (typed a us) r → ex Γ r ≡ accepted (typed b vs) s → Judged (judge_two C o us vs p) result → middle ≡ before ++ flat counts a → behind ≡ middle ++ flat counts b → PartsRead counts (head.Two o) (two_at C ex o Γ p q) before behind s result
two_judged counts C ex Γ p q o a b us vs r s before middle behind (Ok m) x y j n k = two_read counts C ex Γ p q o a b us vs m r s before middle behind x y (j s) n k
two_judged counts C ex Γ p q o a b us vs r s before middle behind (Err w) x y d n k = rw (x, y) (declines_after (judge_two C o us vs p s) _ w (d s))

-- Blocks.
pub if_read : (counts : List ℕ) (ex : Reads) (Γ : List ℕ) (p q : ℕ) (e a b : Expr) (us vs : List ℕ) (m : Members) (r s u : ℕ) (n0 n1 n2 n3 : List Node) → ex Γ q ≡ accepted (typed e us) r → ex Γ r ≡ accepted (typed a (used m)) s → ex Γ s ≡ accepted (typed b vs) u → same (0 ∷ []) us ≡ true → same (used m) vs ≡ true → n1 ≡ n0 ++ flat counts e → n2 ≡ n1 ++ flat counts a → n3 ≡ n2 ++ flat counts b → arity counts a ≡ length (used m) → PartsRead counts head.If (if_at ex Γ p q) n0 n3 u (Ok m)
unfolding flat arity
if_read counts ex Γ p q e a b us vs m r s u n0 n1 n2 n3 x y z c d i j k l =
    (if e a b, flat counts e ++ (flat counts a ++ flat counts b), rw (x, y, z, c, d), ap (λ w. node (kind.Block (block.If w)) (flat counts e ++ (flat counts a ++ flat counts b))) l, grown₃ n0 (flat counts e) (flat counts a) (flat counts b) i j k, l)

pub let_read : (counts : List ℕ) (ex : Reads) (Γ : List ℕ) (p q : ℕ) (d b : Expr) (us Δ : List ℕ) (m : Members) (r s : ℕ) (n0 n1 n2 : List Node) → ex Γ q ≡ accepted (typed d us) r → bound Γ us p r ≡ accepted Δ r → ex Δ r ≡ accepted (typed b (used m)) s → n1 ≡ n0 ++ flat counts d → n2 ≡ n1 ++ flat counts b → arity counts b ≡ length (used m) → PartsRead counts head.Let (let_at ex Γ p q) n0 n2 s (Ok m)
unfolding flat arity
let_read counts ex Γ p q d b us Δ m r s n0 n1 n2 x y z i j l =
    (let_in d b, flat counts d ++ flat counts b, rw (x, y, z), refl, grown₂ n0 (flat counts d) (flat counts b) i j, l)

pub let_body : (counts : List ℕ) (ex : Reads) (Γ : List ℕ) (p q : ℕ) (d : Expr) (us Δ : List ℕ) (r s : ℕ) (n0 n1 n2 : List Node) (result : Result Members Refusal) → ex Γ q ≡ accepted (typed d us) r → bound Γ us p r ≡ accepted Δ r → ExprRead counts (ex Δ r) n1 n2 s result → n1 ≡ n0 ++ flat counts d → PartsRead counts head.Let (let_at ex Γ p q) n0 n2 s result
let_body counts ex Γ p q d us Δ r s n0 n1 n2 (Ok m) x y b i = let_read counts ex Γ p q d b.0 us Δ m r s n0 n1 n2 x y b.1 i b.2 b.3
let_body counts ex Γ p q d us Δ r s n0 n1 n2 (Err w) x y b i = rw (x, y) (declines_after (ex Δ r) _ w b)

pub tagcase_read : (counts : List ℕ) (C : Context) (ex : Reads) (Γ : List ℕ) (p q n : ℕ) (e : Expr) (us cs : List ℕ) (xs : List Typed) (m : Members) (r s : ℕ) (n0 n1 n2 : List Node) → ex Γ q ≡ accepted (typed e us) r → arms_of C n us p r ≡ accepted cs r → length Γ < 96 → arms_at ex cs Γ r ≡ accepted xs s → agree (first_types xs) xs ≡ true → first_types xs ≡ used m → n1 ≡ n0 ++ flat counts e → n2 ≡ n1 ++ flat_all counts (trees xs) → length xs ≡ length cs → arity_first counts (trees xs) ≡ length (used m) → PartsRead counts (head.Tagcase n) (tagcase_at C ex n Γ p q) n0 n2 s (Ok m)
unfolding flat arity
tagcase_read counts C ex Γ p q n e us cs xs m r s n0 n1 n2 x y g z a f i j k l =
    let b : leb (length Γ + 1) 96 ≡ true = le-leb _ 96 (omega arith) in
    let c : count (trees xs) ≡ n = count_trees xs ∙ (k ∙ sym (arms_inv C n us p r cs r y).3) in (
      tagcase e (trees xs),
      flat counts e ++ flat_all counts (trees xs),
      rw (x, y, b, z, a) (ap (λ w. accepted (typed (tagcase e (trees xs)) w) s) f),
      ap₂ (λ v w. node (kind.Block (block.Tagcase v w)) (flat counts e ++ flat_all counts (trees xs))) c l,
      grown₂ n0 (flat counts e) (flat_all counts (trees xs)) i j,
      l,
    )

pub tagcase_arms : (counts : List ℕ) (C : Context) (ex : Reads) (Γ : List ℕ) (p q n : ℕ) (e : Expr) (us cs : List ℕ) (r s : ℕ) (n0 n1 n2 : List Node) (result : Result Members Refusal) → ex Γ q ≡ accepted (typed e us) r → arms_of C n us p r ≡ accepted cs r → length Γ < 96 → ArmsRead counts p (length cs) (arms_at ex cs Γ r) n1 n2 s result → n1 ≡ n0 ++ flat counts e → PartsRead counts (head.Tagcase n) (tagcase_at C ex n Γ p q) n0 n2 s result
tagcase_arms counts C ex Γ p q n e us cs r s n0 n1 n2 (Ok m) x y g a i = tagcase_read counts C ex Γ p q n e us cs a.0 m r s n0 n1 n2 x y g a.1 a.2 a.3 i a.4 a.5 a.6
tagcase_arms counts C ex Γ p q n e us cs r s n0 n1 n2 (Err w) x y g a i =
    let b : leb (length Γ + 1) 96 ≡ true = le-leb _ 96 (omega arith) in
    rw (x, y, b) (judged_else (arms_at ex cs Γ r) (Clash p) (λ xs. agree (first_types xs) xs) (λ xs. xs) (λ xs. typed (tagcase e (trees xs)) (first_types xs)) w a)

pub for_read : (counts : List ℕ) (ex : Reads) (en : Ends) (Γ : List ℕ) (p q : ℕ) (e : Expr) (us Δ : List ℕ) (l : LoopEnd) (m : Members) (r s : ℕ) (n0 n1 n2 : List Node) → ex Γ q ≡ accepted (typed e us) r → bound Γ us p r ≡ accepted Δ r → en (used m) us Δ r ≡ accepted l s → n1 ≡ n0 ++ flat counts e → n2 ≡ n1 ++ flat_end counts (length (used m)) l → PartsRead counts (head.For m) (for_at ex en (used m) Γ p q) n0 n2 s (Ok m)
unfolding flat arity
for_read counts ex en Γ p q e us Δ l m r s n0 n1 n2 x y z i j =
    (for (used m) e l, flat counts e ++ flat_end counts (length (used m)) l, rw (x, y, z), refl, grown₂ n0 (flat counts e) (flat_end counts (length (used m)) l) i j, refl)

pub forall_read : (counts : List ℕ) (ex : Reads) (Γ : List ℕ) (p q : ℕ) (g : Merge) (t : ℕ) (a b e : Expr) (us vs ws Δ index : List ℕ) (m : Members) (r s u : ℕ) (n0 n1 n2 n3 : List Node) → ex Γ q ≡ accepted (typed a us) r → ex Γ r ≡ accepted (typed b vs) s → index ≡ 1 ∷ [] → bound Γ index p s ≡ accepted Δ s → ex Δ s ≡ accepted (typed e ws) u → same (1 ∷ []) us ≡ true → same (1 ∷ []) vs ≡ true → same (t ∷ []) ws ≡ true → used m ≡ merged_type g ∷ [] → n1 ≡ n0 ++ flat counts a → n2 ≡ n1 ++ flat counts b → n3 ≡ n2 ++ flat counts e → PartsRead counts (head.Forall g t) (forall_at ex g t Γ p q) n0 n3 u (Ok m)
unfolding flat arity
forall_read counts ex Γ p q g t a b e us vs ws Δ index m r s u n0 n1 n2 n3 x y o h z c1 c2 c3 f i j k =
    let d : bound Γ (1 ∷ []) p s ≡ accepted Δ s = ap (λ v. bound Γ v p s) (sym o) ∙ h in
    (forall g a b e, flat counts a ++ (flat counts b ++ flat counts e), rw (x, y, d, z, c1, c2, c3) (ap (λ w. accepted (typed (forall g a b e) w) u) (sym f)), refl, grown₃ n0 (flat counts a) (flat counts b) (flat counts e) i j k, ap length (sym f))

pub forall_unbound : (ex : Reads) (Γ : List ℕ) (p q : ℕ) (g : Merge) (t : ℕ) (a b : Expr) (us vs index : List ℕ) (r s : ℕ) (w : Refusal) → ex Γ q ≡ accepted (typed a us) r → ex Γ r ≡ accepted (typed b vs) s → index ≡ 1 ∷ [] → Declines (bound Γ index p s) w → Declines (forall_at ex g t Γ p q) w
forall_unbound ex Γ p q g t a b us vs index r s w x y o d =
    rw (x, y) (declines_after (bound Γ (1 ∷ []) p s) _ w (subst (λ v. Declines (bound Γ v p s) w) o d))

pub fails_second : (a b c : Bool) → b ≡ false → (a && (b && c)) ≡ false
fails_second true b c h = ap (λ z. z && c) h
fails_second false b c h = refl

pub fails_third : (a b c : Bool) → c ≡ false → (a && (b && c)) ≡ false
fails_third true true c h = h
fails_third true false c h = refl
fails_third false b c h = refl

pub forall_clash : (ex : Reads) (Γ : List ℕ) (p q : ℕ) (g : Merge) (t : ℕ) (a b e : Expr) (us vs ws Δ index : List ℕ) (r s u : ℕ) → ex Γ q ≡ accepted (typed a us) r → ex Γ r ≡ accepted (typed b vs) s → index ≡ 1 ∷ [] → bound Γ index p s ≡ accepted Δ s → ex Δ s ≡ accepted (typed e ws) u → (same (1 ∷ []) us && (same (1 ∷ []) vs && same (t ∷ []) ws)) ≡ false → forall_at ex g t Γ p q ≡ refused (Clash p)
forall_clash ex Γ p q g t a b e us vs ws Δ index r s u x y o h z c =
    let d : bound Γ (1 ∷ []) p s ≡ accepted Δ s = ap (λ v. bound Γ v p s) (sym o) ∙ h in
    rw (x, y, d, z, c)

-- Ends of loops.
module _ (counts : List ℕ) (ex : Reads) (en : Ends) (ts again Γ : List ℕ) (p q : ℕ) where
  pub iter_asked : (r : ℕ) (n0 n1 : List Node) (result : Result Unit Refusal) → AskedRead counts again p (ex Γ q) n0 n1 r result → EndPartsRead counts ts head.Iter (iter_at ex again Γ p q) n0 n1 r result
  unfolding flat_end
  iter_asked r n0 n1 (Ok _) a =
      let x = a.1 in
      let s = same_refl again in
      (iter a.0, flat counts a.0, rw (x, s), refl, a.2)
  iter_asked r n0 n1 (Err w) d = judged_else (ex Γ q) (Clash p) (λ a. same again a.types) (λ a. a) (λ a. iter a.tree) w d

  pub if_end_read : (e : Expr) (us : List ℕ) (a b : LoopEnd) (r s u : ℕ) (n0 n1 n2 n3 : List Node) → ex Γ q ≡ accepted (typed e us) r → en ts again Γ r ≡ accepted a s → en ts again Γ s ≡ accepted b u → same (0 ∷ []) us ≡ true → n1 ≡ n0 ++ flat counts e → n2 ≡ n1 ++ flat_end counts (length ts) a → n3 ≡ n2 ++ flat_end counts (length ts) b → EndPartsRead counts ts head.If (if_end_at ex en ts again Γ p q) n0 n3 u (Ok tt)
  unfolding flat_end
  if_end_read e us a b r s u n0 n1 n2 n3 x y z c i j k =
      (if_end e a b, flat counts e ++ (flat_end counts (length ts) a ++ flat_end counts (length ts) b), rw (x, y, z, c), refl, grown₃ n0 (flat counts e) (flat_end counts (length ts) a) (flat_end counts (length ts) b) i j k)

  pub let_end_read : (d : Expr) (us Δ : List ℕ) (b : LoopEnd) (r s : ℕ) (n0 n1 n2 : List Node) → ex Γ q ≡ accepted (typed d us) r → bound Γ us p r ≡ accepted Δ r → en ts again Δ r ≡ accepted b s → n1 ≡ n0 ++ flat counts d → n2 ≡ n1 ++ flat_end counts (length ts) b → EndPartsRead counts ts head.Let (let_end_at ex en ts again Γ p q) n0 n2 s (Ok tt)
  unfolding flat_end
  let_end_read d us Δ b r s n0 n1 n2 x y z i j =
      (let_end d b, flat counts d ++ flat_end counts (length ts) b, rw (x, y, z), refl, grown₂ n0 (flat counts d) (flat_end counts (length ts) b) i j)

  pub let_end_body : (d : Expr) (us Δ : List ℕ) (r s : ℕ) (n0 n1 n2 : List Node) (result : Result Unit Refusal) → ex Γ q ≡ accepted (typed d us) r → bound Γ us p r ≡ accepted Δ r → EndRead counts (length ts) (en ts again Δ r) n1 n2 s result → n1 ≡ n0 ++ flat counts d → EndPartsRead counts ts head.Let (let_end_at ex en ts again Γ p q) n0 n2 s result
  let_end_body d us Δ r s n0 n1 n2 (Ok _) x y b i = let_end_read d us Δ b.0 r s n0 n1 n2 x y b.1 i b.2
  let_end_body d us Δ r s n0 n1 n2 (Err w) x y b i = rw (x, y) (declines_after (en ts again Δ r) _ w b)

  pub tagcase_end_read : (C : Context) (n : ℕ) (e : Expr) (us cs : List ℕ) (ls : List LoopEnd) (r s : ℕ) (n0 n1 n2 : List Node) → ex Γ q ≡ accepted (typed e us) r → arms_of C n us p r ≡ accepted cs r → length Γ < 96 → ends_at en ts again cs Γ r ≡ accepted ls s → n1 ≡ n0 ++ flat counts e → n2 ≡ n1 ++ flat_ends counts (length ts) (ends ls) → length ls ≡ length cs → EndPartsRead counts ts (head.Tagcase n) (tagcase_end_at C ex en n ts again Γ p q) n0 n2 s (Ok tt)
  unfolding flat_end
  tagcase_end_read C n e us cs ls r s n0 n1 n2 x y g z i j k =
      let b : leb (length Γ + 1) 96 ≡ true = le-leb _ 96 (omega arith) in
      let c : count_ends (ends ls) ≡ n = count_these ls ∙ (k ∙ sym (arms_inv C n us p r cs r y).3) in (
        tagcase_end e (ends ls),
        flat counts e ++ flat_ends counts (length ts) (ends ls),
        rw (x, y, b, z),
        ap (λ v. node (kind.End (close.Tagcase v (length ts))) (flat counts e ++ flat_ends counts (length ts) (ends ls))) c,
        grown₂ n0 (flat counts e) (flat_ends counts (length ts) (ends ls)) i j,
      )

  pub tagcase_ends : (C : Context) (n : ℕ) (e : Expr) (us cs : List ℕ) (r s : ℕ) (n0 n1 n2 : List Node) (result : Result Unit Refusal) → ex Γ q ≡ accepted (typed e us) r → arms_of C n us p r ≡ accepted cs r → length Γ < 96 → EndsRead counts (length ts) (length cs) (ends_at en ts again cs Γ r) n1 n2 s result → n1 ≡ n0 ++ flat counts e → EndPartsRead counts ts (head.Tagcase n) (tagcase_end_at C ex en n ts again Γ p q) n0 n2 s result
  tagcase_ends C n e us cs r s n0 n1 n2 (Ok _) x y g a i = tagcase_end_read C n e us cs a.0 r s n0 n1 n2 x y g a.1 i a.2 a.3
  tagcase_ends C n e us cs r s n0 n1 n2 (Err w) x y g a i =
      let b : leb (length Γ + 1) 96 ≡ true = le-leb _ 96 (omega arith) in
      rw (x, y, b) (declines_after (ends_at en ts again cs Γ r) _ w a)

pub done_asked : (counts ts : List ℕ) (o : Out Typed) (p q : ℕ) (n0 n1 : List Node) (result : Result Unit Refusal) → AskedRead counts ts p o n0 n1 q result → EndRead counts (length ts) (done_at ts p o) n0 n1 q result
unfolding flat_end
done_asked counts ts o p q n0 n1 (Ok _) a =
    let x = a.1 in
    let s = same_refl ts in
    (done a.0, rw (x, s), a.2)
done_asked counts ts o p q n0 n1 (Err w) d = judged_else o (Clash p) (λ a. same ts a.types) (λ a. a) (λ a. done a.tree) w d

-- A kind that is no end is read alike at the end of a loop and elsewhere.
other_table : (b : ℕ) (k : Sort) → goes_on k ≡ false → (c : Bool) → eqb b 0x3A ≡ c → cond c (Some sort.Iter) (lookup sorts b) ≡ Some k → lookup sorts b ≡ Some k
other_table b k g true e h = absurd (true≢false (ap goes_on (let i : sort.Iter ≡ k = cc in i) ∙ g))
other_table b k g false e h = h

plain_kind : (bs : List ℕ) (p q : ℕ) (k : Sort) → goes_on k ≡ false → kind_at end_sorts bs p ≡ accepted k q → kind_at sorts bs p ≡ accepted k q
plain_kind bs p q k g h =
    let x = after_inv (first_at bs p) _ k q h in
    let f = found_inv (Strange p) (lookup end_sorts x.0) x.1 k q x.3 in
    let o = other_table x.0 k g (eqb x.0 0x3A) refl f.0 in
    ap (λ w. after w (λ b r. found (Strange p) (lookup sorts b) r)) x.2 ∙ (ap (λ w. found (Strange p) w x.1) o ∙ ap (accepted k) f.1)

-- An expression at the end of a loop.
pub end_done : (C : Context) (bs Γ : List ℕ) (p : ℕ) (ts again : List ℕ) (room q : ℕ) (k : Sort) → kind_at end_sorts bs p ≡ accepted k q → goes_on k ≡ false → end C room bs ts again Γ p ≡ done_at ts p (expr C room bs Γ p)
unfolding expr end
end_done C bs Γ p ts again zero q k e g =
    let s = plain_kind bs p q k g e in
    rw (e, s)
end_done C bs Γ p ts again (suc room) q k e g =
    let s = plain_kind bs p q k g e in
    rw (e, s, g)
