-- Whatever encodes a typed expression is accepted.
use Rattle.std.proofs.Common.{◌≡◌, ℕ, zero, suc, ◌+◌, ◌-◌, ◌*◌, ◌<◌, ◌≤◌, Bool, true, false, cond, eqb, ltb, List, [], ◌∷◌, ◌++◌, length, get_or, replicate, Some, None, Option, sym, refl, ap, ◌∙◌, subst, ap₂, ⊎_elim, add-one, arith, w32, to_z}
use Rattle.std.specs.List.{slice_get}
use Rattle.std.proofs.lemmas.List.{append-nil}
use Rattle.std.proofs.lemmas.Option.{slice_get_past}
use Rattle.std.proofs.lemmas.Bool.{and_parts, and_from, le-leb, lt-ltb, eq-eqb, false≢true, cases_lt}
use Rattle.numbers.specs.declared.number.Number.{Number}
use Rattle.numbers.specs.declared.fault.Fault.{Fault}
use Rattle.numbers.specs.declared.fault.Fault.TheVariants.{Undef, MissElt, PosOver, NegOver, Unknown, ZeroDivide}
use Rattle.numbers.specs.Integers as proper
use Rattle.numbers.specs.Faults.{code_of, of_code}
use Rattle.numbers.proofs.Judging.{judged_proper}
use Rattle.merging.specs.declared.bundle.IntegerMerge.TheVariants as integers
use Rattle.merging.specs.declared.bundle.BooleanMerge.TheVariants as booleans
use Rattle.values.specs.declared.row.Row.{Row}
use Rattle.values.specs.declared.row.Row.TheVariants as rows
use Rattle.values.specs.declared.refusal.Refusal.TheVariants.{Strange, Deep, Undeclared, Clash}
use Rattle.values.specs.Rows.{used, all_below}
use Rattle.values.specs.Tables.{row_of}
use Rattle.values.specs.Values.{word, bit}
use Rattle.values.proofs.Prefixes.{word_back}
use Rattle.language.specs.declared.operation.Unary.{Unary}
use Rattle.language.specs.declared.operation.Unary.TheVariants.{Negate, Abs, Not, IsFault, IsError, Lowest, Highest, Size}
use Rattle.language.specs.declared.operation.Binary.{Binary}
use Rattle.language.specs.declared.operation.Binary.TheVariants.{Plus, Minus, Times, Divide, Modulo, Max, Min, Equal, Unequal, Less, AtMost, Greater, AtLeast, And, Or}
use Rattle.language.specs.declared.merge.Merge.{Merge}
use Rattle.language.specs.declared.merge.Merge.TheVariants.{Collect, Integers, Booleans}
use Rattle.language.specs.declared.node.Leaf.{Leaf}
use Rattle.language.specs.declared.node.Leaf.TheVariants as leaf
use Rattle.language.specs.declared.node.One.{One}
use Rattle.language.specs.declared.node.One.TheVariants as one
use Rattle.language.specs.declared.node.Two.{Two}
use Rattle.language.specs.declared.node.Two.TheVariants as two
use Rattle.language.specs.Syntax.{Expr, Exprs, LoopEnd, LoopEnds, list, integer, boolean, error, name, unary, binary, if, let_in, tagcase, for, forall, call, record_of, field, union, array, element, none, ◌then◌, iter, done, if_end, let_end, tagcase_end, no_ends, ◌or◌, count, count_ends}
use Rattle.language.specs.Encoding.{encode_expr, encode_all, encode_end, encode_ends, encode_uses, unary_code, binary_code}
use Rattle.language.specs.Sorts.{declared, same, has_fault, operand, element_of, fields_of, tags_of, element_in, fields_in, tags_in}
use Rattle.language.specs.Typing.{Context, Few, Plain, Types, MembersTypes, ArmsTypes, EndTypes, EndsTypes, depth, depth_all, depth_end, depth_ends}
use Rattle.verdict.specs.declared.kinds.Sort.{Sort}
use Rattle.verdict.specs.declared.kinds.Sort.TheVariants as sort
use Rattle.verdict.specs.declared.kinds.Head.{Head}
use Rattle.verdict.specs.declared.kinds.Head.TheVariants as head
use Rattle.verdict.specs.Outcomes.{Out, accepted, after, judged, passes, found, each, whole, body, lookup}
use Rattle.verdict.specs.Bodies.{sorts, end_sorts, kind_at, operations, proper_in, number_from, fault_if, use_at, uses_at, members_of, typed_as, head_at}
use Rattle.verdict.specs.Judging.{Typed, typed, parameters_in, results_in, tag_in, judge_one, judge_two, bound, arms_of, singles, firsts, agree, first_types, trees, ends}
use Rattle.verdict.specs.Expressions.{leaf_tree, one_tree, two_tree, members_at, arms_at, ends_at, parts_at, end_parts_at, goes_on, record_at, end_record_at, expr, end}
use Rattle.verdict.proofs.Members.{few_true, used_members_of, zeroed_members_of, members_zeroed, members_few}
use Rattle.verdict.proofs.Spans.{not_none, Span, span_uncons, span_split, span_end, first_found, body_one, body_two, body_four}
use Rattle.verdict.proofs.Heads.{sort_byte, head_sort, head_body, HeadFits}
use Rattle.verdict.proofs.Sames.{same_refl, matches_is, is_one_is, all_of_is}
use Rattle.verdict.proofs.Sound.{first_byte, begins, leaf_bytes, one_bytes, two_bytes_are, one_depth, two_depth}

-- Kinds.
abbrev expression : Sort → Bool
expression sort.List = true
expression sort.Integer = true
expression sort.Boolean = true
expression sort.Error = true
expression sort.Name = true
expression sort.Operation = true
expression sort.If = true
expression sort.Let = true
expression sort.Tagcase = true
expression sort.For = true
expression sort.Iter = false
expression sort.Forall = true
expression sort.Call = true
expression sort.Record = true
expression sort.Field = true
expression sort.Union = true
expression sort.Array = true
expression sort.Element = true

sort_found : (k : Sort) → expression k ≡ true → lookup sorts (sort_byte k) ≡ Some k
sort_found sort.List h = refl
sort_found sort.Integer h = refl
sort_found sort.Boolean h = refl
sort_found sort.Error h = refl
sort_found sort.Name h = refl
sort_found sort.Operation h = refl
sort_found sort.If h = refl
sort_found sort.Let h = refl
sort_found sort.Tagcase h = refl
sort_found sort.For h = refl
sort_found sort.Iter h = absurd (false≢true h)
sort_found sort.Forall h = refl
sort_found sort.Call h = refl
sort_found sort.Record h = refl
sort_found sort.Field h = refl
sort_found sort.Union h = refl
sort_found sort.Array h = refl
sort_found sort.Element h = refl

end_sort_found : (k : Sort) → lookup end_sorts (sort_byte k) ≡ Some k
end_sort_found sort.List = refl
end_sort_found sort.Integer = refl
end_sort_found sort.Boolean = refl
end_sort_found sort.Error = refl
end_sort_found sort.Name = refl
end_sort_found sort.Operation = refl
end_sort_found sort.If = refl
end_sort_found sort.Let = refl
end_sort_found sort.Tagcase = refl
end_sort_found sort.For = refl
end_sort_found sort.Iter = refl
end_sort_found sort.Forall = refl
end_sort_found sort.Call = refl
end_sort_found sort.Record = refl
end_sort_found sort.Field = refl
end_sort_found sort.Union = refl
end_sort_found sort.Array = refl
end_sort_found sort.Element = refl

kind_found : (table : List (ℕ × Sort)) (bs : List ℕ) (p : ℕ) (k : Sort) → p < length bs → get_or bs p 0 ≡ sort_byte k → lookup table (sort_byte k) ≡ Some k → kind_at table bs p ≡ accepted k (p + 1)
kind_found table bs p k lt b e =
    ap (λ o. after o (λ a q. found (Strange p) (lookup table a) q)) (first_found bs p (sort_byte k) lt b) ∙ ap (λ o. found (Strange p) o (p + 1)) e

-- Bodies.
bit_read : (b : Bool) → (ltb (bit b) 2 ≡ true) × (eqb (bit b) 1 ≡ b)
bit_read true = (refl, refl)
bit_read false = (refl, refl)

fault_read : (f : Fault) → of_code (code_of f) ≡ Some f
fault_read Undef = refl
fault_read MissElt = refl
fault_read PosOver = refl
fault_read NegOver = refl
fault_read Unknown = refl
fault_read ZeroDivide = refl

fault_taken : (t : ℕ) (f : Fault) → has_fault t f ≡ true → fault_if t (of_code (code_of f)) ≡ Some f
fault_taken t f h = ap (fault_if t) (fault_read f) ∙ ap (λ b. cond b (Some f) None) h

unary_read : (op : Unary) → lookup operations (unary_code op) ≡ Some (head.One (one.Unary op))
unary_read Negate = refl
unary_read Abs = refl
unary_read Not = refl
unary_read (IsFault Undef) = refl
unary_read (IsFault MissElt) = refl
unary_read (IsFault PosOver) = refl
unary_read (IsFault NegOver) = refl
unary_read (IsFault Unknown) = refl
unary_read (IsFault ZeroDivide) = refl
unary_read IsError = refl
unary_read Lowest = refl
unary_read Highest = refl
unary_read Size = refl

binary_read : (op : Binary) → lookup operations (binary_code op) ≡ Some (head.Two (two.Binary op))
binary_read Plus = refl
binary_read Minus = refl
binary_read Times = refl
binary_read Divide = refl
binary_read Modulo = refl
binary_read Max = refl
binary_read Min = refl
binary_read Equal = refl
binary_read Unequal = refl
binary_read Less = refl
binary_read AtMost = refl
binary_read Greater = refl
binary_read AtLeast = refl
binary_read And = refl
binary_read Or = refl

number_read : (n : Number) (a b c d : ℕ) → a ∷ b ∷ c ∷ d ∷ [] ≡ word n.value → number_from a b c d ≡ Some n
number_read n a b c d e =
    let x : a * 16777216 + b * 65536 + c * 256 + d ≡ _ = ap (λ (w : List ℕ). get_or w 0 0 * 16777216 + get_or w 1 0 * 65536 + get_or w 2 0 * 256 + get_or w 3 0) e in
    ap (λ k. proper_in (proper.judged (to_z w32 k))) x ∙ ap proper_in (judged_proper _ n (sym (word_back n)))

row_declared : (rs : List Row) (t : ℕ) (r : Row) → row_of rs t ≡ Some r → declared rs t ≡ true
row_declared rs t r e = ⊎_elim (λ low. lt-ltb t (length rs + 2) low) (λ high. absurd (go (ltb t 2) refl high e)) (cases_lt t (length rs + 2))
  where
    go : (b : Bool) → ltb t 2 ≡ b → length rs + 2 ≤ t → cond b None (slice_get rs (t - 2)) ≡ Some r → ⊥
    go true low high k = not_none r k
    go false low high k = not_none r (sym (slice_get_past rs (t - 2) (omega arith)) ∙ k)

element_row : (rs : List Row) (t u : ℕ) (o : Option Row) → row_of rs t ≡ o → element_in o ≡ Some u → declared rs t ≡ true
element_row rs t u (Some r) e h = row_declared rs t r e
element_row rs t u None e h = absurd (not_none u h)

fields_row : (rs : List Row) (t : ℕ) (us : List ℕ) (o : Option Row) → row_of rs t ≡ o → fields_in o ≡ Some us → declared rs t ≡ true
fields_row rs t us (Some r) e h = row_declared rs t r e
fields_row rs t us None e h = absurd (not_none us h)

tags_row : (rs : List Row) (t : ℕ) (us : List ℕ) (o : Option Row) → row_of rs t ≡ o → tags_in o ≡ Some us → (declared rs t ≡ true) × Few (length us)
tags_row rs t us (Some (rows.Array u)) e h = absurd (not_none us h)
tags_row rs t us (Some (rows.Record m)) e h = absurd (not_none us h)
tags_row rs t us (Some (rows.Union m)) e h = let i : used m ≡ us = cc in (row_declared rs t (rows.Union m) e, subst (λ v. Few (length v)) i (members_few m))
tags_row rs t us None e h = absurd (not_none us h)

typed_as_found : {A : Type 0} (rs : List Row) (of : ℕ → Option A) (t p q : ℕ) (a : A) → declared rs t ≡ true → of t ≡ Some a → typed_as rs of t p q ≡ accepted a q
typed_as_found rs of t p q a d e = ap (λ b. after (passes (Undeclared p) b q) (λ _ r. found (Clash p) (of t) r)) d ∙ ap (λ o. found (Clash p) o q) e

-- Uses.
use_found : (limit : ℕ) (bs : List ℕ) (p t : ℕ) (xs : List ℕ) (q : ℕ) → Span bs p (0x10 ∷ t ∷ xs) q → ltb t limit ≡ true → (use_at limit bs p ≡ accepted t (p + 2)) × Span bs (p + 2) xs q
use_found limit bs p t xs q s b =
    let u = span_uncons s in
    let v = body_one bs p t xs q u.2 in (
      ap (λ o. after o (λ a _. after (passes (Strange p) (eqb a 0x10) p) (λ _ _. after (whole 1 bs p) (λ _ r. judged (Undeclared p) (ltb (body bs p 1) limit) (body bs p 1) r)))) (first_found bs p 0x10 u.0 u.1)
          ∙ (ap (λ o. after o (λ _ r. judged (Undeclared p) (ltb (body bs p 1) limit) (body bs p 1) r)) v.0
          ∙ (ap (λ a. judged (Undeclared p) (ltb a limit) a (p + 2)) v.1
          ∙ ap (λ c. judged (Undeclared p) c t (p + 2)) b)),
      v.2,
    )

pub uses_found : (limit : ℕ) (bs : List ℕ) (p : ℕ) (ts xs : List ℕ) (q : ℕ) → Span bs p (encode_uses ts ++ xs) q → all_below limit ts ≡ true → (r : ℕ) × (uses_at (length ts) limit bs p ≡ accepted ts r) × Span bs r xs q
unfolding uses_at each encode_uses
uses_found limit bs p [] xs q s b = (p, refl, s)
uses_found limit bs p (t ∷ ts) xs q s b =
    let c = and_parts (ltb t limit) (all_below limit ts) b in
    let u = use_found limit bs p t (encode_uses ts ++ xs) q s c.0 in
    let v = uses_found limit bs (p + 2) ts xs q u.1 c.1 in
    (v.0, ap (λ o. after o (λ a q. after (uses_at (length ts) limit bs q) (λ rest r. accepted (a ∷ rest) r))) u.0 ∙ ap (λ o. after o (λ rest r. accepted (t ∷ rest) r)) v.1, v.2)

-- A head is read back from its bytes.
module _ (C : Context) (bs Γ : List ℕ) (p : ℕ) where
  one_byte : (x : ℕ) (xs : List ℕ) (q : ℕ) (h : Head) (f : Unit {0} → ℕ → Out Head) → Span bs (p + 1) (x ∷ xs) q → (body bs p 1 ≡ x → f tt (p + 2) ≡ accepted h (p + 2)) → (r : ℕ) × (after (whole 1 bs p) f ≡ accepted h r) × Span bs r xs q
  one_byte x xs q h f s g =
      let b = body_one bs p x xs q s in
      (p + 2, ap (λ o. after o f) b.0 ∙ g b.1, b.2)

  two_bytes_read : (x y : ℕ) (xs : List ℕ) (q : ℕ) (h : Head) (f : Unit {0} → ℕ → Out Head) → Span bs (p + 1) (x ∷ y ∷ xs) q → (body bs p 1 ≡ x → body bs p 2 ≡ y → f tt (p + 3) ≡ accepted h (p + 3)) → (r : ℕ) × (after (whole 2 bs p) f ≡ accepted h r) × Span bs r xs q
  two_bytes_read x y xs q h f s g =
      let b = body_two bs p x y xs q s in
      (p + 3, ap (λ o. after o f) b.0 ∙ g b.1 b.2, b.3)

  integer_found : (n : Number) (t : ℕ) (xs : List ℕ) (q : ℕ) → Span bs (p + 1) (word n.value ++ xs) q → t ≡ 1 → (r : ℕ) × (head_at C bs Γ sort.Integer p ≡ accepted (head.Leaf (leaf.Integer n) t) r) × Span bs r xs q
  integer_found n t xs q s e =
      let x = span_split bs (p + 1) (word n.value) xs q s in
      let b = body_four bs p _ _ _ _ x.0 x.1 in
      let b1 = b.1 in let b2 = b.2 in let b3 = b.3 in let b4 = b.4 in
      let m = number_read n (body bs p 1) (body bs p 2) (body bs p 3) (body bs p 4) cc in
      (p + 5, rw (b.0, m) (ap (λ z. accepted (head.Leaf (leaf.Integer n) z) (p + 5)) (sym e)), subst (λ z. Span bs z xs q) (sym b.5) x.2)

  pub head_found : (h : Head) (xs : List ℕ) (q : ℕ) → Span bs (p + 1) (head_body h ++ xs) q → HeadFits C Γ h → (r : ℕ) × (head_at C bs Γ (head_sort h) p ≡ accepted h r) × Span bs r xs q
  head_found (head.Leaf (leaf.Integer n) t) xs q s f = integer_found n t xs q s f
  head_found (head.Leaf (leaf.Boolean b) t) xs q s f =
      one_byte (bit b) xs q _ _ s (λ e. let r = bit_read b in let l : ltb (body bs p 1) 2 ≡ true = ap (λ z. ltb z 2) e ∙ r.0 in let v : eqb (body bs p 1) 1 ≡ b = ap (λ z. eqb z 1) e ∙ r.1 in rw (l, v) (ap (λ z. accepted (head.Leaf (leaf.Boolean b) z) (p + 2)) (sym f)))
  head_found (head.Leaf (leaf.Error g u) t) xs q s f =
      two_bytes_read (code_of g) u xs q _ _ s (λ d e. let w = fault_taken u g f.1 in rw (e, d, f.0, w) (ap (λ z. accepted (head.Leaf (leaf.Error g u) z) (p + 3)) (sym f.2)))
  head_found (head.Leaf (leaf.Name n) t) xs q s f = one_byte n xs q _ _ s (λ e. rw (e, f))
  head_found (head.One (one.Unary op)) xs q s f = one_byte _ xs q _ _ s (λ e. ap (λ z. found (Strange p) (lookup operations z) (p + 2)) e ∙ ap (λ o. found (Strange p) o (p + 2)) (unary_read op))
  head_found (head.One (one.Call g)) xs q s f = one_byte g xs q _ _ s (λ e. rw (e, lt-ltb g (length C.callees) f))
  head_found (head.One (one.Record t)) xs q s f =
      one_byte t xs q _ _ s (λ e. ap (λ z. after (typed_as C.rows (fields_of C.rows) z p (p + 2)) (λ _ r. accepted (head.One (one.Record z)) r)) e ∙ ap (λ o. after o (λ _ r. accepted (head.One (one.Record t)) r)) (typed_as_found C.rows (fields_of C.rows) t p (p + 2) f.0 (fields_row C.rows t f.0 _ refl f.1) f.1))
  head_found (head.One (one.Field n)) xs q s f = one_byte n xs q _ _ s (λ e. rw e)
  head_found (head.One (one.Union t tag)) xs q s f =
      two_bytes_read t tag xs q _ _ s (λ e d. ap₂ (λ y z. after (typed_as C.rows (tags_of C.rows) y p (p + 3)) (λ us r. after (found (Undeclared p) (slice_get us z) r) (λ _ v. accepted (head.One (one.Union y z)) v))) e d
      ∙ (ap (λ o. after o (λ us r. after (found (Undeclared p) (slice_get us tag) r) (λ _ v. accepted (head.One (one.Union t tag)) v))) (typed_as_found C.rows (tags_of C.rows) t p (p + 3) f.0 (tags_row C.rows t f.0 _ refl f.2).0 f.2)
      ∙ ap (λ o. after (found (Undeclared p) o (p + 3)) (λ _ v. accepted (head.One (one.Union t tag)) v)) f.3))
  head_found (head.Two (two.Binary op)) xs q s f = one_byte _ xs q _ _ s (λ e. ap (λ z. found (Strange p) (lookup operations z) (p + 2)) e ∙ ap (λ o. found (Strange p) o (p + 2)) (binary_read op))
  head_found (head.Two (two.Array t)) xs q s f =
      one_byte t xs q _ _ s (λ e. ap (λ z. after (typed_as C.rows (element_of C.rows) z p (p + 2)) (λ _ r. accepted (head.Two (two.Array z)) r)) e ∙ ap (λ o. after o (λ _ r. accepted (head.Two (two.Array t)) r)) (typed_as_found C.rows (element_of C.rows) t p (p + 2) f.0 (element_row C.rows t f.0 _ refl f.1) f.1))
  head_found (head.Two two.Element) xs q s f = (p + 1, refl, s)
  head_found (head.List n) xs q s f = one_byte n xs q _ _ s (λ e. let a = le-leb 2 n f.0 in let b = le-leb n 8 f.1 in rw (e, a, b))
  head_found head.If xs q s f = (p + 1, refl, s)
  head_found head.Let xs q s f = (p + 1, refl, s)
  head_found (head.Tagcase n) xs q s f = one_byte n xs q _ _ s (λ e. let a = few_true n f in rw (e, a))
  head_found (head.For m) xs q s f =
      let b = body_one bs p (length (used m)) (encode_uses (used m) ++ xs) q s in
      let u = uses_found (length C.rows + 2) bs (p + 2) (used m) xs q b.2 f.0 in
      let w = few_true (length (used m)) (members_few m) in
      let z = members_zeroed m f.1 in
      (u.0, rw (b.0, b.1, w, u.1, z), u.2)
  head_found (head.Forall (Collect t) u) xs q s f =
      two_bytes_read 0 t xs q _ _ s (λ d e. let g = typed_as_found C.rows (element_of C.rows) t p (p + 3) u (element_row C.rows t u _ refl f) f in rw (d, e, g))
  head_found (head.Forall (Integers integers.Plus) u) xs q s f = two_bytes_read 1 0 xs q _ _ s (λ d e. let i : 1 ≡ u = cc in rw (d, e) (ap (λ z. accepted (head.Forall (Integers integers.Plus) z) (p + 3)) i))
  head_found (head.Forall (Integers integers.Times) u) xs q s f = two_bytes_read 2 0 xs q _ _ s (λ d e. let i : 1 ≡ u = cc in rw (d, e) (ap (λ z. accepted (head.Forall (Integers integers.Times) z) (p + 3)) i))
  head_found (head.Forall (Integers integers.Max) u) xs q s f = two_bytes_read 3 0 xs q _ _ s (λ d e. let i : 1 ≡ u = cc in rw (d, e) (ap (λ z. accepted (head.Forall (Integers integers.Max) z) (p + 3)) i))
  head_found (head.Forall (Integers integers.Min) u) xs q s f = two_bytes_read 4 0 xs q _ _ s (λ d e. let i : 1 ≡ u = cc in rw (d, e) (ap (λ z. accepted (head.Forall (Integers integers.Min) z) (p + 3)) i))
  head_found (head.Forall (Booleans booleans.And) u) xs q s f = two_bytes_read 5 0 xs q _ _ s (λ d e. let i : 0 ≡ u = cc in rw (d, e) (ap (λ z. accepted (head.Forall (Booleans booleans.And) z) (p + 3)) i))
  head_found (head.Forall (Booleans booleans.Or) u) xs q s f = two_bytes_read 6 0 xs q _ _ s (λ d e. let i : 0 ≡ u = cc in rw (d, e) (ap (λ z. accepted (head.Forall (Booleans booleans.Or) z) (p + 3)) i))
  head_found head.Iter xs q s f = (p + 1, refl, s)

-- Records without parts, with one and with two, from their types.
leaf_back : (C : Context) (Γ : List ℕ) (l : Leaf) (ts : List ℕ) → Types C (leaf_tree l) Γ ts → (t : ℕ) × (ts ≡ t ∷ []) × HeadFits C Γ (head.Leaf l t)
unfolding Types
leaf_back C Γ (leaf.Integer n) ts h = (1, h, refl)
leaf_back C Γ (leaf.Boolean b) ts h = (0, h, refl)
leaf_back C Γ (leaf.Error f u) ts h = (u, h.2, (h.0, h.1, refl))
leaf_back C Γ (leaf.Name n) ts h = (h.0, h.2, h.1)

nth_below : {A : Type 0} (xs : List A) (i : ℕ) (x : A) → slice_get xs i ≡ Some x → i < length xs
nth_below [] i x h = absurd (not_none x h)
nth_below (y ∷ xs) zero x h = omega arith
nth_below (y ∷ xs) (suc i) x h = omega (arith, nth_below xs i x h)

one_back : (C : Context) (Γ : List ℕ) (o : One) (e : Expr) (ts : List ℕ) → Types C (one_tree o e) Γ ts → (us : List ℕ) × Types C e Γ us × ((p q : ℕ) → judge_one C o us p q ≡ accepted ts q) × HeadFits C Γ (head.One o)
unfolding Types
one_back C Γ (one.Unary op) e ts h = (h.0 ∷ [], h.1, (λ p q. rw h.2 (ap (λ z. accepted z q) (sym h.3))), tt)
one_back C Γ (one.Call f) e ts h =
    let s = h.0 in
    let m = matches_is (parameters_in (slice_get C.callees f)) s.parameters (ap parameters_in h.1) in
    (s.parameters, h.2, (λ p q. rw m (ap (λ z. accepted z q) (ap results_in h.1 ∙ sym h.3))), nth_below C.callees f s h.1)
one_back C Γ (one.Record t) e ts h =
    let m = matches_is (fields_of C.rows t) h.0 h.1 in
    (h.0, h.2, (λ p q. rw m (ap (λ z. accepted z q) (sym h.3))), (h.0, h.1))
one_back C Γ (one.Field n) e ts h =
    (h.0 ∷ [], h.3, (λ p q. rw (h.4, h.5) (ap (λ z. accepted z q) (sym h.6))), tt)
one_back C Γ (one.Union t tag) e ts h =
    let m = is_one_is (tag_in (tags_of C.rows t) tag) h.1 (ap (λ o. tag_in o tag) h.2 ∙ h.3) in
    (h.1 ∷ [], h.4, (λ p q. rw m (ap (λ z. accepted z q) (sym h.5))), (h.0, h.1, h.2, h.3))

two_back : (C : Context) (Γ : List ℕ) (o : Two) (a b : Expr) (ts : List ℕ) → Types C (two_tree o a b) Γ ts → (us vs : List ℕ) × Types C a Γ us × Types C b Γ vs × ((p q : ℕ) → judge_two C o us vs p q ≡ accepted ts q) × HeadFits C Γ (head.Two o)
unfolding Types
two_back C Γ (two.Binary op) a b ts h =
    let r = same_refl (operand op ∷ []) in
    (operand op ∷ [], operand op ∷ [], h.0, h.1, (λ p q. rw r (ap (λ z. accepted z q) (sym h.2))), tt)
two_back C Γ (two.Array t) a b ts h =
    let m = all_of_is (element_of C.rows t) h.0 h.1 h.2 h.5 in
    (1 ∷ [], h.1, h.3, h.4, (λ p q. rw m (ap (λ z. accepted z q) (sym h.6))), (h.0, h.2))
two_back C Γ two.Element a b ts h =
    (h.0 ∷ [], 1 ∷ [], h.2, h.4, (λ p q. rw h.3 (ap (λ z. accepted z q) (sym h.5))), tt)

depth_some : (e : Expr) → 1 ≤ depth e
unfolding depth
depth_some (list es) = omega arith
depth_some (integer n) = omega arith
depth_some (boolean b) = omega arith
depth_some (error f t) = omega arith
depth_some (name n) = omega arith
depth_some (unary op a) = omega arith
depth_some (binary op a b) = omega arith
depth_some (if c a b) = omega arith
depth_some (let_in d b) = omega arith
depth_some (tagcase c arms) = omega arith
depth_some (for ts i l) = omega arith
depth_some (forall m a b c) = omega arith
depth_some (call f a) = omega arith
depth_some (record_of t e) = omega arith
depth_some (field n e) = omega arith
depth_some (union t tag e) = omega arith
depth_some (array t a b) = omega arith
depth_some (element a b) = omega arith

depth_end_some : (l : LoopEnd) → 1 ≤ depth_end l
unfolding depth_end
depth_end_some (iter e) = omega arith
depth_end_some (done e) = depth_some e
depth_end_some (if_end c a b) = omega arith
depth_end_some (let_end d b) = omega arith
depth_end_some (tagcase_end c arms) = omega arith

leaf_expression : (l : Leaf) (t : ℕ) → expression (head_sort (head.Leaf l t)) ≡ true
leaf_expression (leaf.Integer n) t = refl
leaf_expression (leaf.Boolean b) t = refl
leaf_expression (leaf.Error f u) t = refl
leaf_expression (leaf.Name n) t = refl

one_expression : (o : One) → expression (head_sort (head.One o)) ≡ true
one_expression (one.Unary op) = refl
one_expression (one.Call f) = refl
one_expression (one.Record t) = refl
one_expression (one.Field n) = refl
one_expression (one.Union t tag) = refl

two_expression : (o : Two) → expression (head_sort (head.Two o)) ≡ true
two_expression (two.Binary op) = refl
two_expression (two.Array t) = refl
two_expression two.Element = refl

-- A record with room for it, by its head.
headed : (C : Context) (room : ℕ) (bs Γ : List ℕ) (p : ℕ) (h : Head) (xs : List ℕ) (q : ℕ) (o : Out Typed) → expression (head_sort h) ≡ true → Span bs p (sort_byte (head_sort h) ∷ (head_body h ++ xs)) q → HeadFits C Γ h → ((r : ℕ) → Span bs r xs q → parts_at C (expr C room bs) (end C room bs) h Γ p r ≡ o) → expr C (suc room) bs Γ p ≡ o
unfolding expr end
headed C room bs Γ p h xs q o k s f g =
    let u = span_uncons s in
    let y = head_found C bs Γ p h xs q u.2 f in
    ap (λ w. after w (λ k _. record_at C bs (expr C room bs) (end C room bs) k Γ p)) (kind_found sorts bs p (head_sort h) u.0 u.1 (sort_found (head_sort h) k))
    ∙ (ap (λ w. after w (λ h r. parts_at C (expr C room bs) (end C room bs) h Γ p r)) y.1 ∙ g y.0 y.2)

headed_end : (C : Context) (room : ℕ) (bs ts again Γ : List ℕ) (p : ℕ) (h : Head) (xs : List ℕ) (q : ℕ) (o : Out LoopEnd) → goes_on (head_sort h) ≡ true → Span bs p (sort_byte (head_sort h) ∷ (head_body h ++ xs)) q → HeadFits C Γ h → ((r : ℕ) → Span bs r xs q → end_parts_at C (expr C room bs) (end C room bs) h ts again Γ p r ≡ o) → end C (suc room) bs ts again Γ p ≡ o
unfolding expr end
headed_end C room bs ts again Γ p h xs q o k s f g =
    let u = span_uncons s in
    let y = head_found C bs Γ p h xs q u.2 f in
    ap (λ w. after w (λ k _. end_record_at (goes_on k) C bs (expr C room bs) (end C room bs) k ts again Γ p)) (kind_found end_sorts bs p (head_sort h) u.0 u.1 (end_sort_found (head_sort h)))
    ∙ (ap (λ b. end_record_at b C bs (expr C room bs) (end C room bs) (head_sort h) ts again Γ p) k
    ∙ (ap (λ w. after w (λ h r. end_parts_at C (expr C room bs) (end C room bs) h ts again Γ p r)) y.1 ∙ g y.0 y.2))

bound_found : (Γ us : List ℕ) (p q : ℕ) → length Γ + length us ≤ 96 → bound Γ us p q ≡ accepted (Γ ++ us) q
bound_found Γ us p q h = ap (λ b. judged (Deep p) b (Γ ++ us) q) (le-leb (length Γ + length us) 96 h)

arms_found : (C : Context) (n t : ℕ) (us : List ℕ) (p q : ℕ) → tags_of C.rows t ≡ Some us → n ≡ length us → arms_of C n (t ∷ []) p q ≡ accepted us q
arms_found C n t us p q e d = ap (λ o. after (found (Clash p) o q) (λ vs r. judged (Clash p) (eqb n (length vs)) vs r)) e ∙ ap (λ b. judged (Clash p) b us q) (eq-eqb n (length us) d)

-- What is typed is read, whatever the room beyond its depth.
abbrev ReadsTyped : Context → List ℕ → Expr → Type 0
ReadsTyped C bs e = (room : ℕ) (Γ : List ℕ) (p : ℕ) (ts : List ℕ) (q : ℕ) → Span bs p (encode_expr e) q → Types C e Γ ts → depth e ≤ room → expr C room bs Γ p ≡ accepted (typed e ts) q

-- With one more room for the record itself.
abbrev OpensTyped : Context → List ℕ → Expr → Type 0
OpensTyped C bs e = (room : ℕ) (Γ : List ℕ) (p : ℕ) (ts : List ℕ) (q : ℕ) → Span bs p (encode_expr e) q → Types C e Γ ts → depth e ≤ suc room → expr C (suc room) bs Γ p ≡ accepted (typed e ts) q

reads_from : (C : Context) (bs : List ℕ) (e : Expr) → OpensTyped C bs e → ReadsTyped C bs e
reads_from C bs e f zero Γ p ts q s t d = absurd (omega (arith, depth_some e))
reads_from C bs e f (suc room) Γ p ts q s t d = f room Γ p ts q s t d

abbrev EndsTyped : Context → List ℕ → LoopEnd → Type 0
EndsTyped C bs l = (room : ℕ) (ts again Γ : List ℕ) (p q : ℕ) → Span bs p (encode_end l) q → EndTypes C l again Γ ts → depth_end l ≤ room → end C room bs ts again Γ p ≡ accepted l q

abbrev OpensEnd : Context → List ℕ → LoopEnd → Type 0
OpensEnd C bs l = (room : ℕ) (ts again Γ : List ℕ) (p q : ℕ) → Span bs p (encode_end l) q → EndTypes C l again Γ ts → depth_end l ≤ suc room → end C (suc room) bs ts again Γ p ≡ accepted l q

ends_from : (C : Context) (bs : List ℕ) (l : LoopEnd) → OpensEnd C bs l → EndsTyped C bs l
ends_from C bs l f zero ts again Γ p q s t d = absurd (omega (arith, depth_end_some l))
ends_from C bs l f (suc room) ts again Γ p q s t d = f room ts again Γ p q s t d

module _ (C : Context) (bs : List ℕ) where
  open_leaf : (l : Leaf) → OpensTyped C bs (leaf_tree l)
  open_leaf l room Γ p ts q s t d =
      let b = leaf_back C Γ l ts t in
      headed C room bs Γ p (head.Leaf l b.0) [] q _ (leaf_expression l b.0) (subst (λ z. Span bs p z q) (leaf_bytes l b.0 ∙ ap (λ z. sort_byte (head_sort (head.Leaf l b.0)) ∷ z) (sym (append-nil (head_body (head.Leaf l b.0))))) s) b.2
      (λ r u. ap₂ (λ y z. accepted (typed (leaf_tree l) y) z) (sym b.1) (span_end bs r q u))

  open_one : (o : One) (e : Expr) → ReadsTyped C bs e → OpensTyped C bs (one_tree o e)
  open_one o e ih room Γ p ts q s t d =
      let b = one_back C Γ o e ts t in
      headed C room bs Γ p (head.One o) (encode_expr e) q _ (one_expression o) (subst (λ z. Span bs p z q) (one_bytes o e) s) b.3
      (λ r u. let x = ih room Γ r b.0 q u b.1 (omega (arith, one_depth o e, d)) in let j = b.2 p q in rw (x, j))

  open_two : (o : Two) (a b : Expr) → ReadsTyped C bs a → ReadsTyped C bs b → OpensTyped C bs (two_tree o a b)
  open_two o a b ia ib room Γ p ts q s t d =
      let k = two_back C Γ o a b ts t in
      headed C room bs Γ p (head.Two o) (encode_expr a ++ encode_expr b) q _ (two_expression o) (subst (λ z. Span bs p z q) (two_bytes_are o a b) s) k.5
      (λ r u. let v = span_split bs r (encode_expr a) (encode_expr b) q u in
      let x = ia room Γ r k.0 v.0 v.1 k.2 (omega (arith, two_depth o a b, d)) in
      let y = ib room Γ v.0 k.1 q v.2 k.3 (omega (arith, two_depth o a b, d)) in
      let j = k.4 p q in rw (x, y, j))

  -- Members, arms and ends.
  pub record MembersRead (room : ℕ) (Γ : List ℕ) (es : Exprs) (p : ℕ) (ts : List ℕ) (q : ℕ) : Type 0 where
    pub those : List Typed
    pub read : members_at (expr C room bs) (count es) Γ p ≡ accepted those q
    pub same_trees : trees those ≡ es
    pub all_single : singles those ≡ true
    pub their_types : firsts those ≡ ts

  pub record ArmsRead (room : ℕ) (Γ us : List ℕ) (es : Exprs) (p : ℕ) (ts : List ℕ) (q : ℕ) : Type 0 where
    pub those : List Typed
    pub read : arms_at (expr C room bs) us Γ p ≡ accepted those q
    pub same_trees : trees those ≡ es
    pub all_agree : agree ts those ≡ true
    pub as_many : count es ≡ length us
    pub firsts_are : 1 ≤ count es → first_types those ≡ ts

  pub record EndsRead (room : ℕ) (ts again Γ us : List ℕ) (ls : LoopEnds) (p q : ℕ) : Type 0 where
    pub those : List LoopEnd
    pub read : ends_at (end C room bs) ts again us Γ p ≡ accepted those q
    pub same_trees : ends those ≡ ls
    pub as_many : count_ends ls ≡ length us

  members_none : (room : ℕ) (Γ : List ℕ) (p : ℕ) (ts : List ℕ) (q : ℕ) → Span bs p (encode_all none) q → MembersTypes C none Γ ts → MembersRead room Γ none p ts q
  unfolding each encode_all MembersTypes
  members_none room Γ p ts q s t = record { those = []; read = ap (accepted []) (span_end bs p q s); same_trees = refl; all_single = refl; their_types = sym t }

  members_more : (room : ℕ) (Γ : List ℕ) (e : Expr) (es : Exprs) (p : ℕ) (t : ℕ) (us ts : List ℕ) (r q : ℕ) → expr C room bs Γ p ≡ accepted (typed e (t ∷ [])) r → MembersRead room Γ es r us q → ts ≡ t ∷ us → MembersRead room Γ (e then es) p ts q
  unfolding each
  members_more room Γ e es p t us ts r q x m h =
      let n : replicate (count es + 1) tt ≡ tt ∷ replicate (count es) tt = ap (λ k. replicate {A = Unit {0}} k tt) (add-one (count es)) in
      record {
        those = typed e (t ∷ []) ∷ m.those;
        read = ap (λ k. each (λ (_ : Unit {0}) r. expr C room bs Γ r) k p) n ∙ (ap (λ o. after o (λ a q. after (members_at (expr C room bs) (count es) Γ q) (λ rest r. accepted (a ∷ rest) r))) x ∙ ap (λ o. after o (λ rest r. accepted (typed e (t ∷ []) ∷ rest) r)) m.read);
        same_trees = ap (λ k. e then k) m.same_trees;
        all_single = m.all_single;
        their_types = ap (λ k. t ∷ k) m.their_types ∙ sym h;
      }

  arms_none : (room : ℕ) (Γ us : List ℕ) (p : ℕ) (ts : List ℕ) (q : ℕ) → Span bs p (encode_all none) q → ArmsTypes C none us Γ ts → ArmsRead room Γ us none p ts q
  unfolding each encode_all ArmsTypes
  arms_none room Γ us p ts q s t =
      subst (λ vs. ArmsRead room Γ vs none p ts q) (sym t)
      (record { those = []; read = ap (accepted []) (span_end bs p q s); same_trees = refl; all_agree = refl; as_many = refl; firsts_are = λ h. absurd (omega arith) })

  arms_more : (room : ℕ) (Γ : List ℕ) (u : ℕ) (rest us : List ℕ) (e : Expr) (es : Exprs) (p : ℕ) (ts : List ℕ) (r q : ℕ) → expr C room bs (Γ ++ u ∷ []) p ≡ accepted (typed e ts) r → ArmsRead room Γ rest es r ts q → us ≡ u ∷ rest → ArmsRead room Γ us (e then es) p ts q
  unfolding each
  arms_more room Γ u rest us e es p ts r q x m h =
      subst (λ vs. ArmsRead room Γ vs (e then es) p ts q) (sym h)
      (record {
        those = typed e ts ∷ m.those;
        read = ap (λ o. after o (λ a q. after (arms_at (expr C room bs) rest Γ q) (λ rest r. accepted (a ∷ rest) r))) x ∙ ap (λ o. after o (λ rest r. accepted (typed e ts ∷ rest) r)) m.read;
        same_trees = ap (λ k. e then k) m.same_trees;
        all_agree = and_from (same ts ts) (agree ts m.those) (same_refl ts) m.all_agree;
        as_many = omega (arith, m.as_many);
        firsts_are = λ h. refl;
      })

  ends_none : (room : ℕ) (ts again Γ us : List ℕ) (p q : ℕ) → Span bs p (encode_ends no_ends) q → EndsTypes C no_ends us again Γ ts → EndsRead room ts again Γ us no_ends p q
  unfolding each encode_ends EndsTypes
  ends_none room ts again Γ us p q s t =
      subst (λ vs. EndsRead room ts again Γ vs no_ends p q) (sym t)
      (record { those = []; read = ap (accepted []) (span_end bs p q s); same_trees = refl; as_many = refl })

  ends_more : (room : ℕ) (ts again Γ : List ℕ) (u : ℕ) (rest us : List ℕ) (l : LoopEnd) (ls : LoopEnds) (p r q : ℕ) → end C room bs ts again (Γ ++ u ∷ []) p ≡ accepted l r → EndsRead room ts again Γ rest ls r q → us ≡ u ∷ rest → EndsRead room ts again Γ us (l or ls) p q
  unfolding each
  ends_more room ts again Γ u rest us l ls p r q x m h =
      subst (λ vs. EndsRead room ts again Γ vs (l or ls) p q) (sym h)
      (record {
        those = l ∷ m.those;
        read = ap (λ o. after o (λ a q. after (ends_at (end C room bs) ts again rest Γ q) (λ rest r. accepted (a ∷ rest) r))) x ∙ ap (λ o. after o (λ rest r. accepted (l ∷ rest) r)) m.read;
        same_trees = ap (λ k. l or k) m.same_trees;
        as_many = omega (arith, m.as_many);
      })

  open_list : (es : Exprs) → ((room : ℕ) (Γ : List ℕ) (p : ℕ) (ts : List ℕ) (q : ℕ) → Span bs p (encode_all es) q → MembersTypes C es Γ ts → depth_all es ≤ room → MembersRead room Γ es p ts q) → OpensTyped C bs (list es)
  unfolding encode_expr Types depth
  open_list es ih room Γ p ts q s t d =
      headed C room bs Γ p (head.List (count es)) (encode_all es) q _ refl s (t.0, t.1)
      (λ r u. let m = ih room Γ r ts q u t.2 (omega (arith, d)) in
      let x = m.read in let y = m.all_single in
      rw (x, y) (ap₂ (λ a b. accepted (typed (list a) b) q) m.same_trees m.their_types))

  open_if : (c a b : Expr) → ReadsTyped C bs c → ReadsTyped C bs a → ReadsTyped C bs b → OpensTyped C bs (if c a b)
  unfolding encode_expr Types depth
  open_if c a b ic ia ib room Γ p ts q s t d =
      headed C room bs Γ p head.If (encode_expr c ++ (encode_expr a ++ encode_expr b)) q _ refl s tt
      (λ r u. let v = span_split bs r (encode_expr c) (encode_expr a ++ encode_expr b) q u in
      let w = span_split bs v.0 (encode_expr a) (encode_expr b) q v.2 in
      let x = ic room Γ r (0 ∷ []) v.0 v.1 t.0 (omega (arith, d)) in
      let y = ia room Γ v.0 ts w.0 w.1 t.1 (omega (arith, d)) in
      let z = ib room Γ w.0 ts q w.2 t.2 (omega (arith, d)) in
      let e = same_refl ts in
      rw (x, y, z, e))

  open_let : (d b : Expr) → ReadsTyped C bs d → ReadsTyped C bs b → OpensTyped C bs (let_in d b)
  unfolding encode_expr Types depth
  open_let d b id ib room Γ p ts q s t k =
      headed C room bs Γ p head.Let (encode_expr d ++ encode_expr b) q _ refl s tt
      (λ r u. let v = span_split bs r (encode_expr d) (encode_expr b) q u in
      let x = id room Γ r t.0 v.0 v.1 t.1 (omega (arith, k)) in
      let f = bound_found Γ t.0 p v.0 t.2 in
      let y = ib room (Γ ++ t.0) v.0 ts q v.2 t.3 (omega (arith, k)) in
      rw (x, f, y))

  open_tagcase : (c : Expr) (es : Exprs) → ReadsTyped C bs c → ((room : ℕ) (Γ us : List ℕ) (p : ℕ) (ts : List ℕ) (q : ℕ) → Span bs p (encode_all es) q → ArmsTypes C es us Γ ts → depth_all es ≤ room → ArmsRead room Γ us es p ts q) → OpensTyped C bs (tagcase c es)
  unfolding encode_expr Types depth
  open_tagcase c es ic ih room Γ p ts q s t d =
      let g = tags_row C.rows t.0 t.1 _ refl t.3 in
      let k = ih_count es t.1 Γ ts t.5 in
      headed C room bs Γ p (head.Tagcase (count es)) (encode_expr c ++ encode_all es) q _ refl s (subst Few (sym k) g.1)
      (λ r u. let v = span_split bs r (encode_expr c) (encode_all es) q u in
      let x = ic room Γ r (t.0 ∷ []) v.0 v.1 t.2 (omega (arith, d)) in
      let a = arms_found C (count es) t.0 t.1 p v.0 t.3 k in
      let f = bound_found Γ (0 ∷ []) p v.0 (omega (arith, t.4)) in
      let m = ih room Γ t.1 v.0 ts q v.2 t.5 (omega (arith, d)) in
      let y = m.read in
      let h = m.firsts_are (omega (arith, k, g.1.some)) in
      let z : agree (first_types m.those) m.those ≡ true = ap (λ w. agree w m.those) h ∙ m.all_agree in
      rw (x, a, f, y, z) (ap₂ (λ a b. accepted (typed (tagcase c a) b) q) m.same_trees h))
    where
      ih_count : (es : Exprs) (us Γ ts : List ℕ) → ArmsTypes C es us Γ ts → count es ≡ length us
      ih_count none us Γ ts h = ap length (sym h)
      ih_count (e then es) us Γ ts h = omega (arith, ih_count es h.1 Γ ts h.4, ap length h.2)

  open_for : (us : List ℕ) (i : Expr) (l : LoopEnd) → ReadsTyped C bs i → EndsTyped C bs l → OpensTyped C bs (for us i l)
  unfolding encode_expr Types depth
  open_for us i l ii il room Γ p ts q s t d =
      let m = used_members_of us t.0 in
      let z = zeroed_members_of us t.0 in
      headed C room bs Γ p (head.For (members_of us)) (encode_expr i ++ encode_end l) q _ refl
      (subst (λ w. Span bs p (0x39 ∷ (length w ∷ encode_uses w) ++ (encode_expr i ++ encode_end l)) q) (sym m) s)
      (subst (λ w. all_below (length C.rows + 2) w ≡ true) (sym m) t.1, z)
      (λ r u. let v = span_split bs r (encode_expr i) (encode_end l) q u in
      let x = ii room Γ r t.2.0 v.0 v.1 t.2.1 (omega (arith, d)) in
      let f = bound_found Γ t.2.0 p v.0 t.2.2 in
      let y = il room us t.2.0 (Γ ++ t.2.0) v.0 q v.2 t.2.3 (omega (arith, d)) in
      let e = t.3 in
      rw (m, x, f, y) (ap (λ w. accepted (typed (for us i l) w) q) (sym e)))

  open_forall : (m : Merge) (a b c : Expr) → ReadsTyped C bs a → ReadsTyped C bs b → ReadsTyped C bs c → OpensTyped C bs (forall m a b c)
  unfolding encode_expr Types depth
  open_forall m a b c ia ib ic room Γ p ts q s t d =
      headed C room bs Γ p (head.Forall m t.3.0) (encode_expr a ++ (encode_expr b ++ encode_expr c)) q _ refl s t.3.2
      (λ r u. let v = span_split bs r (encode_expr a) (encode_expr b ++ encode_expr c) q u in
      let w = span_split bs v.0 (encode_expr b) (encode_expr c) q v.2 in
      let x = ia room Γ r (1 ∷ []) v.0 v.1 t.0 (omega (arith, d)) in
      let y = ib room Γ v.0 (1 ∷ []) w.0 w.1 t.1 (omega (arith, d)) in
      let f = bound_found Γ (1 ∷ []) p w.0 (omega (arith, t.2)) in
      let z = ic room (Γ ++ 1 ∷ []) w.0 (t.3.0 ∷ []) q w.2 t.3.1 (omega (arith, d)) in
      let e = same_refl (t.3.0 ∷ []) in
      rw (x, y, f, z, e) (ap (λ k. accepted (typed (forall m a b c) k) q) (sym t.4)))

  -- Ends of loops.
  open_iter : (e : Expr) → ReadsTyped C bs e → OpensEnd C bs (iter e)
  unfolding encode_end EndTypes depth_end
  open_iter e ih room ts again Γ p q s t d =
      headed_end C room bs ts again Γ p head.Iter (encode_expr e) q _ refl s tt
      (λ r u. let x = ih room Γ r again q u t (omega (arith, d)) in let f = same_refl again in rw (x, f))

  open_if_end : (c : Expr) (a b : LoopEnd) → ReadsTyped C bs c → EndsTyped C bs a → EndsTyped C bs b → OpensEnd C bs (if_end c a b)
  unfolding encode_end EndTypes depth_end
  open_if_end c a b ic ia ib room ts again Γ p q s t d =
      headed_end C room bs ts again Γ p head.If (encode_expr c ++ (encode_end a ++ encode_end b)) q _ refl s tt
      (λ r u. let v = span_split bs r (encode_expr c) (encode_end a ++ encode_end b) q u in
      let w = span_split bs v.0 (encode_end a) (encode_end b) q v.2 in
      let x = ic room Γ r (0 ∷ []) v.0 v.1 t.0 (omega (arith, d)) in
      let y = ia room ts again Γ v.0 w.0 w.1 t.1 (omega (arith, d)) in
      let z = ib room ts again Γ w.0 q w.2 t.2 (omega (arith, d)) in
      rw (x, y, z))

  open_let_end : (d : Expr) (b : LoopEnd) → ReadsTyped C bs d → EndsTyped C bs b → OpensEnd C bs (let_end d b)
  unfolding encode_end EndTypes depth_end
  open_let_end d b id ib room ts again Γ p q s t k =
      headed_end C room bs ts again Γ p head.Let (encode_expr d ++ encode_end b) q _ refl s tt
      (λ r u. let v = span_split bs r (encode_expr d) (encode_end b) q u in
      let x = id room Γ r t.0 v.0 v.1 t.1 (omega (arith, k)) in
      let f = bound_found Γ t.0 p v.0 t.2 in
      let y = ib room ts again (Γ ++ t.0) v.0 q v.2 t.3 (omega (arith, k)) in
      rw (x, f, y))

  open_tagcase_end : (c : Expr) (ls : LoopEnds) → ReadsTyped C bs c → ((room : ℕ) (ts again Γ us : List ℕ) (p q : ℕ) → Span bs p (encode_ends ls) q → EndsTypes C ls us again Γ ts → depth_ends ls ≤ room → EndsRead room ts again Γ us ls p q) → OpensEnd C bs (tagcase_end c ls)
  unfolding encode_end EndTypes depth_end
  open_tagcase_end c ls ic ih room ts again Γ p q s t d =
      let g = tags_row C.rows t.0 t.1 _ refl t.3 in
      let k = ih_count ls t.1 again Γ ts t.5 in
      headed_end C room bs ts again Γ p (head.Tagcase (count_ends ls)) (encode_expr c ++ encode_ends ls) q _ refl s (subst Few (sym k) g.1)
      (λ r u. let v = span_split bs r (encode_expr c) (encode_ends ls) q u in
      let x = ic room Γ r (t.0 ∷ []) v.0 v.1 t.2 (omega (arith, d)) in
      let a = arms_found C (count_ends ls) t.0 t.1 p v.0 t.3 k in
      let f = bound_found Γ (0 ∷ []) p v.0 (omega (arith, t.4)) in
      let m = ih room ts again Γ t.1 v.0 q v.2 t.5 (omega (arith, d)) in
      let y = m.read in
      rw (x, a, f, y) (ap (λ a. accepted (tagcase_end c a) q) m.same_trees))
    where
      ih_count : (ls : LoopEnds) (us again Γ ts : List ℕ) → EndsTypes C ls us again Γ ts → count_ends ls ≡ length us
      ih_count no_ends us again Γ ts h = ap length (sym h)
      ih_count (l or ls) us again Γ ts h = omega (arith, ih_count ls h.1 again Γ ts h.4, ap length h.2)

  -- An expression that is no if, let or tagcase begins with a kind that is no end's.
  plain_sort : (e : Expr) → Plain e → (k : Sort) × (sort_byte k ≡ first_byte e) × (goes_on k ≡ false) × (expression k ≡ true)
  plain_sort (list es) h = (sort.List, refl, refl, refl)
  plain_sort (integer n) h = (sort.Integer, refl, refl, refl)
  plain_sort (boolean b) h = (sort.Boolean, refl, refl, refl)
  plain_sort (error f t) h = (sort.Error, refl, refl, refl)
  plain_sort (name n) h = (sort.Name, refl, refl, refl)
  plain_sort (unary op a) h = (sort.Operation, refl, refl, refl)
  plain_sort (binary op a b) h = (sort.Operation, refl, refl, refl)
  plain_sort (if c a b) h = absurd h
  plain_sort (let_in d b) h = absurd h
  plain_sort (tagcase c arms) h = absurd h
  plain_sort (for ts i l) h = (sort.For, refl, refl, refl)
  plain_sort (forall m a b c) h = (sort.Forall, refl, refl, refl)
  plain_sort (call f a) h = (sort.Call, refl, refl, refl)
  plain_sort (record_of t e) h = (sort.Record, refl, refl, refl)
  plain_sort (field n e) h = (sort.Field, refl, refl, refl)
  plain_sort (union t tag e) h = (sort.Union, refl, refl, refl)
  plain_sort (array t a b) h = (sort.Array, refl, refl, refl)
  plain_sort (element a b) h = (sort.Element, refl, refl, refl)

  open_done : (e : Expr) → OpensTyped C bs e → OpensEnd C bs (done e)
  unfolding encode_end EndTypes depth_end expr end
  open_done e ih room ts again Γ p q s t d =
      let x = ih room Γ p ts q s t.1 d in
      let k = plain_sort e t.0 in
      let b = begins e bs p q s in
      let byte : get_or bs p 0 ≡ sort_byte k.0 = b.1 ∙ sym k.1 in
      let y = kind_found sorts bs p k.0 b.0 byte (sort_found k.0 k.3) in
      let z = kind_found end_sorts bs p k.0 b.0 byte (end_sort_found k.0) in
      let r : record_at C bs (expr C room bs) (end C room bs) k.0 Γ p ≡ accepted (typed e ts) q = sym (ap (λ o. after o (λ j _. record_at C bs (expr C room bs) (end C room bs) j Γ p)) y) ∙ x in
      let g = k.2 in
      let f = same_refl ts in
      rw (z, g, r, f)

  mutual
    unfolding encode_expr encode_all encode_end encode_ends Types MembersTypes ArmsTypes EndTypes EndsTypes depth depth_all depth_end depth_ends

    pub opens : (e : Expr) → OpensTyped C bs e
    opens (list es) = open_list es (members_complete es)
    opens (integer n) = open_leaf (leaf.Integer n)
    opens (boolean b) = open_leaf (leaf.Boolean b)
    opens (error f t) = open_leaf (leaf.Error f t)
    opens (name n) = open_leaf (leaf.Name n)
    opens (unary op a) = open_one (one.Unary op) a (reads_from C bs a (opens a))
    opens (binary op a b) = open_two (two.Binary op) a b (reads_from C bs a (opens a)) (reads_from C bs b (opens b))
    opens (if c a b) = open_if c a b (reads_from C bs c (opens c)) (reads_from C bs a (opens a)) (reads_from C bs b (opens b))
    opens (let_in d b) = open_let d b (reads_from C bs d (opens d)) (reads_from C bs b (opens b))
    opens (tagcase c es) = open_tagcase c es (reads_from C bs c (opens c)) (arms_complete es)
    opens (for us i l) = open_for us i l (reads_from C bs i (opens i)) (ends_from C bs l (opens_end l))
    opens (forall m a b c) = open_forall m a b c (reads_from C bs a (opens a)) (reads_from C bs b (opens b)) (reads_from C bs c (opens c))
    opens (call f a) = open_one (one.Call f) a (reads_from C bs a (opens a))
    opens (record_of t e) = open_one (one.Record t) e (reads_from C bs e (opens e))
    opens (field n e) = open_one (one.Field n) e (reads_from C bs e (opens e))
    opens (union t tag e) = open_one (one.Union t tag) e (reads_from C bs e (opens e))
    opens (array t a b) = open_two (two.Array t) a b (reads_from C bs a (opens a)) (reads_from C bs b (opens b))
    opens (element a b) = open_two two.Element a b (reads_from C bs a (opens a)) (reads_from C bs b (opens b))

    members_complete : (es : Exprs) (room : ℕ) (Γ : List ℕ) (p : ℕ) (ts : List ℕ) (q : ℕ) → Span bs p (encode_all es) q → MembersTypes C es Γ ts → depth_all es ≤ room → MembersRead room Γ es p ts q
    members_complete none room Γ p ts q s t d = members_none room Γ p ts q s t
    members_complete (e then es) room Γ p ts q s t d =
        let v = span_split bs p (encode_expr e) (encode_all es) q s in
        members_more room Γ e es p t.0 t.1 ts v.0 q (reads_from C bs e (opens e) room Γ p (t.0 ∷ []) v.0 v.1 t.2 (omega (arith, d))) (members_complete es room Γ v.0 t.1 q v.2 t.3 (omega (arith, d))) t.4

    arms_complete : (es : Exprs) (room : ℕ) (Γ us : List ℕ) (p : ℕ) (ts : List ℕ) (q : ℕ) → Span bs p (encode_all es) q → ArmsTypes C es us Γ ts → depth_all es ≤ room → ArmsRead room Γ us es p ts q
    arms_complete none room Γ us p ts q s t d = arms_none room Γ us p ts q s t
    arms_complete (e then es) room Γ us p ts q s t d =
        let v = span_split bs p (encode_expr e) (encode_all es) q s in
        arms_more room Γ t.0 t.1 us e es p ts v.0 q (reads_from C bs e (opens e) room (Γ ++ t.0 ∷ []) p ts v.0 v.1 t.3 (omega (arith, d))) (arms_complete es room Γ t.1 v.0 ts q v.2 t.4 (omega (arith, d))) t.2

    pub opens_end : (l : LoopEnd) → OpensEnd C bs l
    opens_end (iter e) = open_iter e (reads_from C bs e (opens e))
    opens_end (done e) = open_done e (opens e)
    opens_end (if_end c a b) = open_if_end c a b (reads_from C bs c (opens c)) (ends_from C bs a (opens_end a)) (ends_from C bs b (opens_end b))
    opens_end (let_end d b) = open_let_end d b (reads_from C bs d (opens d)) (ends_from C bs b (opens_end b))
    opens_end (tagcase_end c ls) = open_tagcase_end c ls (reads_from C bs c (opens c)) (ends_complete ls)

    ends_complete : (ls : LoopEnds) (room : ℕ) (ts again Γ us : List ℕ) (p q : ℕ) → Span bs p (encode_ends ls) q → EndsTypes C ls us again Γ ts → depth_ends ls ≤ room → EndsRead room ts again Γ us ls p q
    ends_complete no_ends room ts again Γ us p q s t d = ends_none room ts again Γ us p q s t
    ends_complete (l or ls) room ts again Γ us p q s t d =
        let v = span_split bs p (encode_end l) (encode_ends ls) q s in
        ends_more room ts again Γ t.0 t.1 us l ls p v.0 q (ends_from C bs l (opens_end l) room ts again (Γ ++ t.0 ∷ []) p v.0 v.1 t.3 (omega (arith, d))) (ends_complete ls room ts again Γ t.1 v.0 q v.2 t.4 (omega (arith, d))) t.2

-- Whatever encodes a typed expression within the room is accepted.
pub complete : (C : Context) (bs : List ℕ) (e : Expr) (room : ℕ) (Γ : List ℕ) (p : ℕ) (ts : List ℕ) (q : ℕ) → Span bs p (encode_expr e) q → Types C e Γ ts → depth e ≤ room → expr C room bs Γ p ≡ accepted (typed e ts) q
complete C bs e = reads_from C bs e (opens C bs e)
