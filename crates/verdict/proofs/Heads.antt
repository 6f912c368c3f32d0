-- What the heads of records say, and that they are read back from their bytes.
use Rattle.std.proofs.Common.{◌≡◌, ℕ, zero, suc, ◌+◌, ◌*◌, ◌/◌, ◌%◌, ◌<◌, ◌≤◌, Bool, true, false, cond, ◌&&◌, eqb, ltb, leb, List, [], ◌∷◌, length, get_or, ℤ, Some, None, Option, sym, refl, ap, ◌∙◌, subst, arith, w32, to_z, of_z}
use lib.Signed.{lt_z}
use Rattle.std.specs.List.{slice_get}
use Rattle.std.proofs.lemmas.Bool.{and_parts, and_from, leb-true, ltb-true, eqb-true}
use Rattle.std.proofs.lemmas.Int.{of_z-to_z}
use Rattle.numbers.specs.declared.number.Number.{Number}
use Rattle.numbers.specs.declared.fault.Fault.{Fault}
use Rattle.numbers.specs.declared.fault.Fault.TheVariants.{Undef, MissElt, PosOver, NegOver, Unknown, ZeroDivide}
use Rattle.numbers.specs.declared.integer.Integer.{Integer}
use Rattle.numbers.specs.declared.integer.Integer.TheVariants as integer
use Rattle.numbers.specs.Integers as proper
use Rattle.numbers.specs.Faults.{code_of, of_code}
use Rattle.values.specs.declared.row.Row.{Row}
use Rattle.values.specs.declared.refusal.Refusal.TheVariants.{Strange, Undeclared, Clash}
use Rattle.values.specs.Rows.{used, all_below}
use Rattle.values.specs.Values.{word, bit}
use Rattle.language.specs.declared.merge.Merge.TheVariants.{Collect}
use Rattle.language.specs.declared.node.Leaf.TheVariants as leaf
use Rattle.language.specs.declared.node.One.TheVariants as one
use Rattle.language.specs.declared.node.Two.TheVariants as two
use Rattle.language.specs.Encoding.{unary_code, binary_code, merge_code, merge_type, encode_uses}
use Rattle.language.specs.Sorts.{declared, has_fault, element_of, fields_of, tags_of, part_type}
use Rattle.language.specs.Typing.{Context, Few, Zeroed}
use Rattle.verdict.specs.declared.kinds.Sort.{Sort}
use Rattle.verdict.specs.declared.kinds.Sort.TheVariants as sort
use Rattle.verdict.specs.declared.kinds.Head.{Head}
use Rattle.verdict.specs.declared.kinds.Head.TheVariants as head
use Rattle.verdict.specs.Outcomes.{accepted, after, judged, passes, found, each, first_at, whole, body, lookup}
use Rattle.verdict.specs.Bodies.{sorts, end_sorts, kind_at, operations, operators, few, proper_in, number_from, fault_if, use_at, uses_at, members_of, list_head, integer_head, boolean_head, error_head, name_head, operation_head, tagcase_head, for_head, typed_as, forall_head, call_head, record_head, field_head, union_head, array_head, head_at}
use Rattle.verdict.proofs.Members.{used_members_of, zeroed_members_of}
use Rattle.verdict.proofs.Spans.{not_none, after_inv, accepted_inv, judged_inv, passes_inv, found_inv, whole_inv, first_inv, Span, span_nil, span_cons, span_join, span_one, span_two, span_four}

-- The kind byte of a sort, the sort of a head, and its body.
abbrev pub sort_byte : Sort → ℕ
sort_byte sort.List = 0x30
sort_byte sort.Integer = 0x31
sort_byte sort.Boolean = 0x32
sort_byte sort.Error = 0x33
sort_byte sort.Name = 0x34
sort_byte sort.Operation = 0x35
sort_byte sort.If = 0x36
sort_byte sort.Let = 0x37
sort_byte sort.Tagcase = 0x38
sort_byte sort.For = 0x39
sort_byte sort.Iter = 0x3A
sort_byte sort.Forall = 0x3B
sort_byte sort.Call = 0x3C
sort_byte sort.Record = 0x3D
sort_byte sort.Field = 0x3E
sort_byte sort.Union = 0x3F
sort_byte sort.Array = 0x40
sort_byte sort.Element = 0x42

abbrev pub head_sort : Head → Sort
head_sort (head.Leaf (leaf.Integer n) t) = sort.Integer
head_sort (head.Leaf (leaf.Boolean b) t) = sort.Boolean
head_sort (head.Leaf (leaf.Error f u) t) = sort.Error
head_sort (head.Leaf (leaf.Name n) t) = sort.Name
head_sort (head.One (one.Unary op)) = sort.Operation
head_sort (head.One (one.Call f)) = sort.Call
head_sort (head.One (one.Record t)) = sort.Record
head_sort (head.One (one.Field n)) = sort.Field
head_sort (head.One (one.Union t tag)) = sort.Union
head_sort (head.Two (two.Binary op)) = sort.Operation
head_sort (head.Two (two.Array t)) = sort.Array
head_sort (head.Two two.Element) = sort.Element
head_sort (head.List n) = sort.List
head_sort head.If = sort.If
head_sort head.Let = sort.Let
head_sort (head.Tagcase n) = sort.Tagcase
head_sort (head.For m) = sort.For
head_sort (head.Forall m t) = sort.Forall
head_sort head.Iter = sort.Iter

abbrev pub head_body : Head → List ℕ
head_body (head.Leaf (leaf.Integer n) t) = word n.value
head_body (head.Leaf (leaf.Boolean b) t) = bit b ∷ []
head_body (head.Leaf (leaf.Error f u) t) = code_of f ∷ u ∷ []
head_body (head.Leaf (leaf.Name n) t) = n ∷ []
head_body (head.One (one.Unary op)) = unary_code op ∷ []
head_body (head.One (one.Call f)) = f ∷ []
head_body (head.One (one.Record t)) = t ∷ []
head_body (head.One (one.Field n)) = n ∷ []
head_body (head.One (one.Union t tag)) = t ∷ tag ∷ []
head_body (head.Two (two.Binary op)) = binary_code op ∷ []
head_body (head.Two (two.Array t)) = t ∷ []
head_body (head.Two two.Element) = []
head_body (head.List n) = n ∷ []
head_body head.If = []
head_body head.Let = []
head_body (head.Tagcase n) = n ∷ []
head_body (head.For m) = length (used m) ∷ encode_uses (used m)
head_body (head.Forall m t) = merge_code m ∷ merge_type m ∷ []
head_body head.Iter = []

-- What is judged of a head.
abbrev pub HeadFits : Context → List ℕ → Head → Type 0
HeadFits C Γ (head.Leaf (leaf.Integer n) t) = t ≡ 1
HeadFits C Γ (head.Leaf (leaf.Boolean b) t) = t ≡ 0
HeadFits C Γ (head.Leaf (leaf.Error f u) t) = (declared C.rows u ≡ true) × (has_fault u f ≡ true) × (t ≡ u)
HeadFits C Γ (head.Leaf (leaf.Name n) t) = slice_get Γ n ≡ Some t
HeadFits C Γ (head.One (one.Unary op)) = Unit {0}
HeadFits C Γ (head.One (one.Call f)) = f < length C.callees
HeadFits C Γ (head.One (one.Record t)) = (us : List ℕ) × (fields_of C.rows t ≡ Some us)
HeadFits C Γ (head.One (one.Field n)) = Unit {0}
HeadFits C Γ (head.One (one.Union t tag)) = (us : List ℕ) × (u : ℕ) × (tags_of C.rows t ≡ Some us) × (slice_get us tag ≡ Some u)
HeadFits C Γ (head.Two (two.Binary op)) = Unit {0}
HeadFits C Γ (head.Two (two.Array t)) = (u : ℕ) × (element_of C.rows t ≡ Some u)
HeadFits C Γ (head.Two two.Element) = Unit {0}
HeadFits C Γ (head.List n) = (2 ≤ n) × (n ≤ 8)
HeadFits C Γ head.If = Unit {0}
HeadFits C Γ head.Let = Unit {0}
HeadFits C Γ (head.Tagcase n) = Few n
HeadFits C Γ (head.For m) = (all_below (length C.rows + 2) (used m) ≡ true) × Zeroed m
HeadFits C Γ (head.Forall m t) = part_type C.rows m ≡ Some t
HeadFits C Γ head.Iter = Unit {0}

-- What a table has, it has under a number of which something holds.
abbrev pub AllUnder : {A : Type 0} → (ℕ → A → Type 0) → List (ℕ × A) → Type 0
AllUnder P [] = Unit {0}
AllUnder P (x ∷ xs) = P x.0 x.1 × AllUnder P xs

lookup_step : {A : Type 0} (P : ℕ → A → Type 0) (x : ℕ × A) (xs : List (ℕ × A)) (n : ℕ) (a : A) → P x.0 x.1 → (lookup xs n ≡ Some a → P n a) → (b : Bool) → eqb n x.0 ≡ b → cond b (Some x.1) (lookup xs n) ≡ Some a → P n a
lookup_step P x xs n a k ih true t h = let i : x.1 ≡ a = cc in subst (λ z. P n z) i (subst (λ z. P z x.1) (sym (eqb-true n x.0 t)) k)
lookup_step P x xs n a k ih false t h = ih h

pub lookup_all : {A : Type 0} (P : ℕ → A → Type 0) (table : List (ℕ × A)) (n : ℕ) (a : A) → AllUnder P table → lookup table n ≡ Some a → P n a
lookup_all P [] n a k h = absurd (not_none a h)
lookup_all P (x ∷ xs) n a k h = lookup_step P x xs n a k.0 (lookup_all P xs n a k.1) (eqb n x.0) refl h

-- Kinds.
abbrev ByteSays : ℕ → Sort → Type 0
ByteSays b k = sort_byte k ≡ b

sort_says : AllUnder ByteSays sorts
sort_says = (refl, (refl, (refl, (refl, (refl, (refl, (refl, (refl, (refl, (refl, (refl, (refl, (refl, (refl, (refl, (refl, (refl, tt)))))))))))))))))

end_sort_says : AllUnder ByteSays end_sorts
end_sort_says = (refl, sort_says)

pub kind_inv : (bs : List ℕ) (p : ℕ) (k : Sort) (q : ℕ) → kind_at sorts bs p ≡ accepted k q → (p < length bs) × (get_or bs p 0 ≡ sort_byte k)
kind_inv bs p k q h =
    let x = after_inv (first_at bs p) _ k q h in
    let f = first_inv bs p x.0 x.1 x.2 in
    let g = found_inv (Strange p) (lookup sorts x.0) x.1 k q x.3 in
    (f.0, f.1 ∙ sym (lookup_all ByteSays sorts x.0 k sort_says g.0))

pub end_kind_inv : (bs : List ℕ) (p : ℕ) (k : Sort) (q : ℕ) → kind_at end_sorts bs p ≡ accepted k q → (p < length bs) × (get_or bs p 0 ≡ sort_byte k)
end_kind_inv bs p k q h =
    let x = after_inv (first_at bs p) _ k q h in
    let f = first_inv bs p x.0 x.1 x.2 in
    let g = found_inv (Strange p) (lookup end_sorts x.0) x.1 k q x.3 in
    (f.0, f.1 ∙ sym (lookup_all ByteSays end_sorts x.0 k end_sort_says g.0))

-- A number and a byte from what they are read from.
bit_back : (b : ℕ) → b < 2 → bit (eqb b 1) ≡ b
bit_back zero h = refl
bit_back (suc zero) h = refl
bit_back (suc (suc b)) h = absurd (omega arith)

proper_in_inv : (i : Integer) (n : Number) → proper_in i ≡ Some n → i ≡ integer.Proper n
proper_in_inv (integer.Proper m) n h = cc
proper_in_inv (integer.Error f) n h = absurd (not_none n h)

by_test_inv : {X : Type 0} (P : X → Type 0) (b : Bool) (f : b ≡ true → X) (g : b ≡ false → X) → ((e : b ≡ true) → P (f e)) → ((e : b ≡ false) → P (g e)) → P (proper.by_test b f g)
by_test_inv P true f g x y = x refl
by_test_inv P false f g x y = y refl

-- What is judged proper has that value.
abbrev Valued : ℤ → Integer → Type 0
Valued z (integer.Proper n) = n.value ≡ z
Valued z (integer.Error f) = Unit {0}

judged_valued : (z : ℤ) → Valued z (proper.judged z)
judged_valued z =
    by_test_inv (Valued z) (lt_z proper.greatest z) (λ _. integer.Error PosOver)
    (λ u. proper.by_test (lt_z z proper.least) (λ _. integer.Error NegOver) (λ v. integer.Proper (record { value = z; proper = (proper.not_below z v, proper.not_above z u) })))
    (λ _. tt)
    (λ u. by_test_inv (Valued z) (lt_z z proper.least) (λ _. integer.Error NegOver) (λ v. integer.Proper (record { value = z; proper = (proper.not_below z v, proper.not_above z u) })) (λ _. tt) (λ _. refl))

judged_value : (z : ℤ) (n : Number) → proper.judged z ≡ integer.Proper n → n.value ≡ z
judged_value z n e = subst (Valued z) e (judged_valued z)

four_again : (a b c d : ℕ) → a < 256 → b < 256 → c < 256 → d < 256 → (n : ℕ) → n ≡ a * 16777216 + b * 65536 + c * 256 + d → (n / 16777216 % 256 ≡ a) × (n / 65536 % 256 ≡ b) × (n / 256 % 256 ≡ c) × (n % 256 ≡ d)
four_again a b c d ha hb hc hd n e = (omega arith, omega arith, omega arith, omega arith)

number_word : (a b c d : ℕ) (n : Number) → a < 256 → b < 256 → c < 256 → d < 256 → number_from a b c d ≡ Some n → word n.value ≡ a ∷ b ∷ c ∷ d ∷ []
number_word a b c d n ha hb hc hd h =
    let m = a * 16777216 + b * 65536 + c * 256 + d in
    let v : n.value ≡ to_z w32 m = judged_value (to_z w32 m) n (proper_in_inv _ n h) in
    let o : of_z w32 n.value ≡ m = ap (of_z w32) v ∙ of_z-to_z w32 m (omega arith) in
    let f = four_again a b c d ha hb hc hd (of_z w32 n.value) o in
    let f0 = f.0 in let f1 = f.1 in let f2 = f.2 in let f3 = f.3 in
    cc

fault_if_inv : (t : ℕ) (o : Option Fault) (f : Fault) → fault_if t o ≡ Some f → (o ≡ Some f) × (has_fault t f ≡ true)
fault_if_inv t None f h = absurd (not_none f h)
fault_if_inv t (Some g) f h = go (has_fault t g) refl h
  where
    go : (b : Bool) → has_fault t g ≡ b → cond b (Some g) None ≡ Some f → (Some g ≡ Some f) × (has_fault t f ≡ true)
    go true e k = let i : g ≡ f = cc in (k, subst (λ z. has_fault t z ≡ true) i e)
    go false e k = absurd (not_none f k)

abbrev FaultSays : ℕ → Fault → Type 0
FaultSays n f = code_of f ≡ n

fault_says : AllUnder FaultSays ((1, Undef) ∷ (2, MissElt) ∷ (3, PosOver) ∷ (4, NegOver) ∷ (5, Unknown) ∷ (6, ZeroDivide) ∷ [])
fault_says = (refl, (refl, (refl, (refl, (refl, (refl, tt))))))

fault_code : (n : ℕ) (f : Fault) → of_code n ≡ Some f → code_of f ≡ n
fault_code n f h = lookup_all FaultSays ((1, Undef) ∷ (2, MissElt) ∷ (3, PosOver) ∷ (4, NegOver) ∷ (5, Unknown) ∷ (6, ZeroDivide) ∷ []) n f fault_says h

-- Uses.
use_sound : (limit : ℕ) (bs : List ℕ) (p t q : ℕ) → use_at limit bs p ≡ accepted t q → Span bs p (0x10 ∷ t ∷ []) q × (ltb t limit ≡ true)
use_sound limit bs p t q h =
    let x = after_inv (first_at bs p) _ t q h in
    let f = first_inv bs p x.0 x.1 x.2 in
    let y = after_inv (passes (Strange p) (eqb x.0 0x10) p) _ t q x.3 in
    let k = passes_inv (Strange p) (eqb x.0 0x10) p y.0 y.1 y.2 in
    let z = after_inv (whole 1 bs p) _ t q y.3 in
    let w = whole_inv 1 bs p z.0 z.1 z.2 in
    let j = judged_inv (Undeclared p) (ltb (body bs p 1) limit) (body bs p 1) z.1 t q z.3 in (
      span_cons f.0 (f.1 ∙ eqb-true _ _ k.0) (subst (λ a. Span bs (p + 1) (a ∷ []) q) j.1 (span_one bs p q w.0 (w.1 ∙ j.2))),
      subst (λ a. ltb a limit ≡ true) j.1 j.0,
    )

pub record UsesAre (n limit : ℕ) (bs : List ℕ) (p : ℕ) (ts : List ℕ) (q : ℕ) : Type 0 where
  pub long : length ts ≡ n
  pub span : Span bs p (encode_uses ts) q
  pub below : all_below limit ts ≡ true

pub uses_sound : (n limit : ℕ) (bs : List ℕ) (p : ℕ) (ts : List ℕ) (q : ℕ) → uses_at n limit bs p ≡ accepted ts q → UsesAre n limit bs p ts q
unfolding uses_at each encode_uses
uses_sound zero limit bs p ts q h =
    let j = accepted_inv [] ts p q h in
    subst (λ us. UsesAre zero limit bs p us q) j.0 (record { long = refl; span = subst (λ z. Span bs p [] z) j.1 (span_nil bs p); below = refl })
uses_sound (suc n) limit bs p ts q h =
    let x = after_inv (use_at limit bs p) _ ts q h in
    let y = after_inv (uses_at n limit bs x.1) _ ts q x.3 in
    let j = accepted_inv (x.0 ∷ y.0) ts y.1 q y.3 in
    let u = use_sound limit bs p x.0 x.1 x.2 in
    let i = uses_sound n limit bs x.1 y.0 y.1 y.2 in
    subst (λ us. UsesAre (suc n) limit bs p us q) j.0
    (record {
      long = omega (arith, i.long);
      span = subst (λ z. Span bs p (0x10 ∷ x.0 ∷ encode_uses y.0) z) j.1 (span_join bs p (0x10 ∷ x.0 ∷ []) (encode_uses y.0) x.1 y.1 u.0 i.span);
      below = and_from (ltb x.0 limit) (all_below limit y.0) u.1 i.below;
    })

pub few_from : (n : ℕ) → few n ≡ true → Few n
few_from n h = let p = and_parts (leb 1 n) (leb n 8) h in record { some = leb-true 1 n p.0; most = leb-true n 8 p.1 }

typed_as_inv : {A : Type 0} (rows : List Row) (of : ℕ → Option A) (t p q : ℕ) (a : A) (r : ℕ) → typed_as rows of t p q ≡ accepted a r → (of t ≡ Some a) × (q ≡ r)
typed_as_inv rows of t p q a r h =
    let x = after_inv (passes (Undeclared p) (declared rows t) q) _ a r h in
    let k = passes_inv (Undeclared p) (declared rows t) q x.0 x.1 x.2 in
    let g = found_inv (Clash p) (of t) x.1 a r x.3 in
    (g.0, k.1 ∙ g.1)

-- A head that was read.
pub record HeadIs (C : Context) (bs Γ : List ℕ) (k : Sort) (p : ℕ) (h : Head) (q : ℕ) : Type 0 where
  pub sort_is : head_sort h ≡ k
  pub span : Span bs (p + 1) (head_body h) q
  pub fits : HeadFits C Γ h

abbrev OperationSays : Context → List ℕ → ℕ → Head → Type 0
OperationSays C Γ n h = (head_sort h ≡ sort.Operation) × (head_body h ≡ n ∷ []) × HeadFits C Γ h

operations_say : (C : Context) (Γ : List ℕ) → AllUnder (OperationSays C Γ) operations
operations_say C Γ = ((refl, refl, tt), ((refl, refl, tt), ((refl, refl, tt), ((refl, refl, tt), ((refl, refl, tt), ((refl, refl, tt), ((refl, refl, tt), ((refl, refl, tt), ((refl, refl, tt), ((refl, refl, tt), ((refl, refl, tt), ((refl, refl, tt), ((refl, refl, tt), ((refl, refl, tt), ((refl, refl, tt), ((refl, refl, tt), ((refl, refl, tt), ((refl, refl, tt), ((refl, refl, tt), ((refl, refl, tt), ((refl, refl, tt), ((refl, refl, tt), ((refl, refl, tt), ((refl, refl, tt), ((refl, refl, tt), ((refl, refl, tt), ((refl, refl, tt), ((refl, refl, tt), tt))))))))))))))))))))))))))))

abbrev OperatorSays : Context → List ℕ → ℕ → Head → Type 0
OperatorSays C Γ n h = (head_sort h ≡ sort.Forall) × (head_body h ≡ n ∷ 0 ∷ []) × HeadFits C Γ h

operators_say : (C : Context) (Γ : List ℕ) → AllUnder (OperatorSays C Γ) operators
operators_say C Γ = ((refl, refl, refl), ((refl, refl, refl), ((refl, refl, refl), ((refl, refl, refl), ((refl, refl, refl), ((refl, refl, refl), tt))))))

module _ (C : Context) (bs Γ : List ℕ) (p : ℕ) where
  moved : {k : Sort} {h g : Head} {r q : ℕ} → HeadIs C bs Γ k p h r → h ≡ g → r ≡ q → HeadIs C bs Γ k p g q
  moved {k} {h} {g} {r} {q} i x y = subst (λ v. HeadIs C bs Γ k p v q) x (subst (λ v. HeadIs C bs Γ k p h v) y i)

  list_sound : (h : Head) (q : ℕ) → list_head bs p ≡ accepted h q → HeadIs C bs Γ sort.List p h q
  list_sound h q e =
      let x = after_inv (whole 1 bs p) _ h q e in
      let w = whole_inv 1 bs p x.0 x.1 x.2 in
      let j = judged_inv (Strange p) (leb 2 (body bs p 1) && leb (body bs p 1) 8) (head.List (body bs p 1)) x.1 h q x.3 in
      let t = and_parts (leb 2 (body bs p 1)) (leb (body bs p 1) 8) j.0 in
      moved {h = head.List (body bs p 1)} (record { sort_is = refl; span = span_one bs p x.1 w.0 w.1; fits = (leb-true 2 _ t.0, leb-true _ 8 t.1) }) j.1 j.2

  integer_sound : ((i : ℕ) → get_or bs i 0 < 256) → (h : Head) (q : ℕ) → integer_head bs p ≡ accepted h q → HeadIs C bs Γ sort.Integer p h q
  integer_sound bytes h q e =
      let x = after_inv (whole 4 bs p) _ h q e in
      let w = whole_inv 4 bs p x.0 x.1 x.2 in
      let y = after_inv (found (Strange p) (number_from (body bs p 1) (body bs p 2) (body bs p 3) (body bs p 4)) x.1) _ h q x.3 in
      let g = found_inv (Strange p) (number_from (body bs p 1) (body bs p 2) (body bs p 3) (body bs p 4)) x.1 y.0 y.1 y.2 in
      let j = accepted_inv (head.Leaf (leaf.Integer y.0) 1) h y.1 q y.3 in
      let n = number_word (body bs p 1) (body bs p 2) (body bs p 3) (body bs p 4) y.0 (bytes (p + 1)) (bytes (p + 2)) (bytes (p + 3)) (bytes (p + 4)) g.0 in
      moved {h = head.Leaf (leaf.Integer y.0) 1} (record { sort_is = refl; span = subst (λ z. Span bs (p + 1) z y.1) (sym n) (span_four bs p y.1 w.0 (w.1 ∙ g.1)); fits = refl }) j.0 j.1

  boolean_sound : (h : Head) (q : ℕ) → boolean_head bs p ≡ accepted h q → HeadIs C bs Γ sort.Boolean p h q
  boolean_sound h q e =
      let x = after_inv (whole 1 bs p) _ h q e in
      let w = whole_inv 1 bs p x.0 x.1 x.2 in
      let j = judged_inv (Strange p) (ltb (body bs p 1) 2) (head.Leaf (leaf.Boolean (eqb (body bs p 1) 1)) 0) x.1 h q x.3 in
      moved {h = head.Leaf (leaf.Boolean (eqb (body bs p 1) 1)) 0} (record { sort_is = refl; span = subst (λ z. Span bs (p + 1) (z ∷ []) x.1) (sym (bit_back (body bs p 1) (ltb-true _ 2 j.0))) (span_one bs p x.1 w.0 w.1); fits = refl }) j.1 j.2

  error_sound : (h : Head) (q : ℕ) → error_head C.rows bs p ≡ accepted h q → HeadIs C bs Γ sort.Error p h q
  error_sound h q e =
      let t = body bs p 2 in
      let x = after_inv (whole 2 bs p) _ h q e in
      let w = whole_inv 2 bs p x.0 x.1 x.2 in
      let y = after_inv (passes (Undeclared p) (declared C.rows t) x.1) _ h q x.3 in
      let d = passes_inv (Undeclared p) (declared C.rows t) x.1 y.0 y.1 y.2 in
      let z = after_inv (found (Clash p) (fault_if t (of_code (body bs p 1))) y.1) _ h q y.3 in
      let g = found_inv (Clash p) (fault_if t (of_code (body bs p 1))) y.1 z.0 z.1 z.2 in
      let f = fault_if_inv t (of_code (body bs p 1)) z.0 g.0 in
      let j = accepted_inv (head.Leaf (leaf.Error z.0 t) t) h z.1 q z.3 in
      moved {h = head.Leaf (leaf.Error z.0 t) t} (record { sort_is = refl; span = subst (λ a. Span bs (p + 1) (a ∷ t ∷ []) z.1) (sym (fault_code _ z.0 f.0)) (span_two bs p z.1 w.0 (w.1 ∙ (d.1 ∙ g.1))); fits = (d.0, f.1, refl) }) j.0 j.1

  name_sound : (h : Head) (q : ℕ) → name_head bs Γ p ≡ accepted h q → HeadIs C bs Γ sort.Name p h q
  name_sound h q e =
      let x = after_inv (whole 1 bs p) _ h q e in
      let w = whole_inv 1 bs p x.0 x.1 x.2 in
      let y = after_inv (found (Undeclared p) (slice_get Γ (body bs p 1)) x.1) _ h q x.3 in
      let g = found_inv (Undeclared p) (slice_get Γ (body bs p 1)) x.1 y.0 y.1 y.2 in
      let j = accepted_inv (head.Leaf (leaf.Name (body bs p 1)) y.0) h y.1 q y.3 in
      moved {h = head.Leaf (leaf.Name (body bs p 1)) y.0} (record { sort_is = refl; span = span_one bs p y.1 w.0 (w.1 ∙ g.1); fits = g.0 }) j.0 j.1

  operation_sound : (h : Head) (q : ℕ) → operation_head bs p ≡ accepted h q → HeadIs C bs Γ sort.Operation p h q
  operation_sound h q e =
      let x = after_inv (whole 1 bs p) _ h q e in
      let w = whole_inv 1 bs p x.0 x.1 x.2 in
      let g = found_inv (Strange p) (lookup operations (body bs p 1)) x.1 h q x.3 in
      let s = lookup_all (OperationSays C Γ) operations (body bs p 1) h (operations_say C Γ) g.0 in
      record { sort_is = s.0; span = subst (λ z. Span bs (p + 1) z q) (sym s.1) (span_one bs p q w.0 (w.1 ∙ g.1)); fits = s.2 }

  tagcase_sound : (h : Head) (q : ℕ) → tagcase_head bs p ≡ accepted h q → HeadIs C bs Γ sort.Tagcase p h q
  tagcase_sound h q e =
      let x = after_inv (whole 1 bs p) _ h q e in
      let w = whole_inv 1 bs p x.0 x.1 x.2 in
      let j = judged_inv (Strange p) (few (body bs p 1)) (head.Tagcase (body bs p 1)) x.1 h q x.3 in
      moved {h = head.Tagcase (body bs p 1)} (record { sort_is = refl; span = span_one bs p x.1 w.0 w.1; fits = few_from _ j.0 }) j.1 j.2

  for_sound : (h : Head) (q : ℕ) → for_head C.rows bs p ≡ accepted h q → HeadIs C bs Γ sort.For p h q
  for_sound h q e =
      let n = body bs p 1 in
      let x = after_inv (whole 1 bs p) _ h q e in
      let w = whole_inv 1 bs p x.0 x.1 x.2 in
      let y = after_inv (passes (Strange p) (few n) x.1) _ h q x.3 in
      let d = passes_inv (Strange p) (few n) x.1 y.0 y.1 y.2 in
      let z = after_inv (uses_at n (length C.rows + 2) bs y.1) _ h q y.3 in
      let j = accepted_inv (head.For (members_of z.0)) h z.1 q z.3 in
      let u = uses_sound n (length C.rows + 2) bs y.1 z.0 z.1 z.2 in
      let f : Few (length z.0) = subst Few (sym u.long) (few_from n d.0) in
      let m = used_members_of z.0 f in
      let s : Span bs (p + 1) (length z.0 ∷ encode_uses z.0) z.1 =
      subst (λ a. Span bs (p + 1) (a ∷ encode_uses z.0) z.1) (sym u.long) (span_join bs (p + 1) (n ∷ []) (encode_uses z.0) y.1 z.1 (span_one bs p y.1 w.0 (w.1 ∙ d.1)) u.span) in
      moved {h = head.For (members_of z.0)} (record {
        sort_is = refl;
        span = subst (λ a. Span bs (p + 1) (length a ∷ encode_uses a) z.1) (sym m) s;
        fits = (subst (λ a. all_below (length C.rows + 2) a ≡ true) (sym m) u.below, zeroed_members_of z.0 f);
      }) j.0 j.1

  forall_by : (h : Head) (q r : ℕ) → p + 2 < length bs → p + 3 ≡ r → (b : Bool) → eqb (body bs p 1) 0 ≡ b → cond b (after (typed_as C.rows (element_of C.rows) (body bs p 2) p r) (λ t s. accepted (head.Forall (Collect (body bs p 2)) t) s)) (after (found (Strange p) (lookup operators (body bs p 1)) r) (λ g s. judged (Strange p) (eqb (body bs p 2) 0) g s)) ≡ accepted h q → HeadIs C bs Γ sort.Forall p h q
  forall_by h q r w0 w1 true b a =
      let y = after_inv (typed_as C.rows (element_of C.rows) (body bs p 2) p r) _ h q a in
      let t = typed_as_inv C.rows (element_of C.rows) (body bs p 2) p r y.0 y.1 y.2 in
      let j = accepted_inv (head.Forall (Collect (body bs p 2)) y.0) h y.1 q y.3 in
      moved {h = head.Forall (Collect (body bs p 2)) y.0} (record { sort_is = refl; span = subst (λ z. Span bs (p + 1) (z ∷ body bs p 2 ∷ []) y.1) (eqb-true _ 0 b) (span_two bs p y.1 w0 (w1 ∙ t.1)); fits = t.0 }) j.0 j.1
  forall_by h q r w0 w1 false b a =
      let y = after_inv (found (Strange p) (lookup operators (body bs p 1)) r) _ h q a in
      let g = found_inv (Strange p) (lookup operators (body bs p 1)) r y.0 y.1 y.2 in
      let j = judged_inv (Strange p) (eqb (body bs p 2) 0) y.0 y.1 h q y.3 in
      let s = lookup_all (OperatorSays C Γ) operators (body bs p 1) y.0 (operators_say C Γ) g.0 in
      moved {h = y.0} (record { sort_is = s.0; span = subst (λ z. Span bs (p + 1) z y.1) (sym s.1) (subst (λ z. Span bs (p + 1) (body bs p 1 ∷ z ∷ []) y.1) (eqb-true _ 0 j.0) (span_two bs p y.1 w0 (w1 ∙ g.1))); fits = s.2 }) j.1 j.2

  forall_sound : (h : Head) (q : ℕ) → forall_head C.rows bs p ≡ accepted h q → HeadIs C bs Γ sort.Forall p h q
  forall_sound h q e =
      let x = after_inv (whole 2 bs p) _ h q e in
      let w = whole_inv 2 bs p x.0 x.1 x.2 in
      forall_by h q x.1 w.0 w.1 (eqb (body bs p 1) 0) refl x.3

  call_sound : (h : Head) (q : ℕ) → call_head C bs p ≡ accepted h q → HeadIs C bs Γ sort.Call p h q
  call_sound h q e =
      let x = after_inv (whole 1 bs p) _ h q e in
      let w = whole_inv 1 bs p x.0 x.1 x.2 in
      let j = judged_inv (Undeclared p) (ltb (body bs p 1) (length C.callees)) (head.One (one.Call (body bs p 1))) x.1 h q x.3 in
      moved {h = head.One (one.Call (body bs p 1))} (record { sort_is = refl; span = span_one bs p x.1 w.0 w.1; fits = ltb-true _ _ j.0 }) j.1 j.2

  record_sound : (h : Head) (q : ℕ) → record_head C.rows bs p ≡ accepted h q → HeadIs C bs Γ sort.Record p h q
  record_sound h q e =
      let x = after_inv (whole 1 bs p) _ h q e in
      let w = whole_inv 1 bs p x.0 x.1 x.2 in
      let y = after_inv (typed_as C.rows (fields_of C.rows) (body bs p 1) p x.1) _ h q x.3 in
      let t = typed_as_inv C.rows (fields_of C.rows) (body bs p 1) p x.1 y.0 y.1 y.2 in
      let j = accepted_inv (head.One (one.Record (body bs p 1))) h y.1 q y.3 in
      moved {h = head.One (one.Record (body bs p 1))} (record { sort_is = refl; span = span_one bs p y.1 w.0 (w.1 ∙ t.1); fits = (y.0, t.0) }) j.0 j.1

  field_sound : (h : Head) (q : ℕ) → field_head bs p ≡ accepted h q → HeadIs C bs Γ sort.Field p h q
  field_sound h q e =
      let x = after_inv (whole 1 bs p) _ h q e in
      let w = whole_inv 1 bs p x.0 x.1 x.2 in
      let j = accepted_inv (head.One (one.Field (body bs p 1))) h x.1 q x.3 in
      moved {h = head.One (one.Field (body bs p 1))} (record { sort_is = refl; span = span_one bs p x.1 w.0 w.1; fits = tt }) j.0 j.1

  union_sound : (h : Head) (q : ℕ) → union_head C.rows bs p ≡ accepted h q → HeadIs C bs Γ sort.Union p h q
  union_sound h q e =
      let x = after_inv (whole 2 bs p) _ h q e in
      let w = whole_inv 2 bs p x.0 x.1 x.2 in
      let y = after_inv (typed_as C.rows (tags_of C.rows) (body bs p 1) p x.1) _ h q x.3 in
      let t = typed_as_inv C.rows (tags_of C.rows) (body bs p 1) p x.1 y.0 y.1 y.2 in
      let z = after_inv (found (Undeclared p) (slice_get y.0 (body bs p 2)) y.1) _ h q y.3 in
      let g = found_inv (Undeclared p) (slice_get y.0 (body bs p 2)) y.1 z.0 z.1 z.2 in
      let j = accepted_inv (head.One (one.Union (body bs p 1) (body bs p 2))) h z.1 q z.3 in
      moved {h = head.One (one.Union (body bs p 1) (body bs p 2))} (record { sort_is = refl; span = span_two bs p z.1 w.0 (w.1 ∙ (t.1 ∙ g.1)); fits = (y.0, z.0, t.0, g.0) }) j.0 j.1

  array_sound : (h : Head) (q : ℕ) → array_head C.rows bs p ≡ accepted h q → HeadIs C bs Γ sort.Array p h q
  array_sound h q e =
      let x = after_inv (whole 1 bs p) _ h q e in
      let w = whole_inv 1 bs p x.0 x.1 x.2 in
      let y = after_inv (typed_as C.rows (element_of C.rows) (body bs p 1) p x.1) _ h q x.3 in
      let t = typed_as_inv C.rows (element_of C.rows) (body bs p 1) p x.1 y.0 y.1 y.2 in
      let j = accepted_inv (head.Two (two.Array (body bs p 1))) h y.1 q y.3 in
      moved {h = head.Two (two.Array (body bs p 1))} (record { sort_is = refl; span = span_one bs p y.1 w.0 (w.1 ∙ t.1); fits = (y.0, t.0) }) j.0 j.1

  bare_sound : (k : Sort) (g h : Head) (q : ℕ) → head_sort g ≡ k → head_body g ≡ [] → HeadFits C Γ g → accepted g (p + 1) ≡ accepted h q → HeadIs C bs Γ k p h q
  bare_sound k g h q s b f e =
      let j = accepted_inv g h (p + 1) q e in
      moved {h = g} (record { sort_is = s; span = subst (λ z. Span bs (p + 1) z (p + 1)) (sym b) (span_nil bs (p + 1)); fits = f }) j.0 j.1

  pub head_sound : ((i : ℕ) → get_or bs i 0 < 256) → (k : Sort) (h : Head) (q : ℕ) → head_at C bs Γ k p ≡ accepted h q → HeadIs C bs Γ k p h q
  head_sound bytes sort.List h q e = list_sound h q e
  head_sound bytes sort.Integer h q e = integer_sound bytes h q e
  head_sound bytes sort.Boolean h q e = boolean_sound h q e
  head_sound bytes sort.Error h q e = error_sound h q e
  head_sound bytes sort.Name h q e = name_sound h q e
  head_sound bytes sort.Operation h q e = operation_sound h q e
  head_sound bytes sort.If h q e = bare_sound sort.If head.If h q refl refl tt e
  head_sound bytes sort.Let h q e = bare_sound sort.Let head.Let h q refl refl tt e
  head_sound bytes sort.Tagcase h q e = tagcase_sound h q e
  head_sound bytes sort.For h q e = for_sound h q e
  head_sound bytes sort.Iter h q e = bare_sound sort.Iter head.Iter h q refl refl tt e
  head_sound bytes sort.Forall h q e = forall_sound h q e
  head_sound bytes sort.Call h q e = call_sound h q e
  head_sound bytes sort.Record h q e = record_sound h q e
  head_sound bytes sort.Field h q e = field_sound h q e
  head_sound bytes sort.Union h q e = union_sound h q e
  head_sound bytes sort.Array h q e = array_sound h q e
  head_sound bytes sort.Element h q e = bare_sound sort.Element (head.Two two.Element) h q refl refl tt e
