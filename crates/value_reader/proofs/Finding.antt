-- Scalars that stand in bytes: a kind byte and a body.
use Rattle.std.proofs.Common.{◌≡◌, ℕ, suc, ◌+◌, ◌<◌, ◌≤◌, Bool, true, false, ltb, leb, eqb, List, [], ◌∷◌, length, get_or, take, drop, ℤ, negsuc, Some, None, Ok, Err, Option, Result, sym, refl, ap, ◌∙◌, arith, subst, w8, w32, to_z, Fits, MatchOption}
use borrow.Author.Differences.{ints}
use mir.Val.{bool_byte}
use Rattle.std.proofs.lemmas.Bool.Decides.{nat_tests}
use Rattle.std.proofs.lemmas.Bool.{and_from, and_parts, leb-true, eqb-true, lt-ltb, le-leb, eq-eqb, false≢true}
use Rattle.numbers.specs.declared.number.Number.{Number}
use Rattle.numbers.specs.declared.fault.Fault.{Fault}
use Rattle.numbers.specs.declared.fault.Fault.TheVariants.{Undef, MissElt, PosOver, NegOver, Unknown, ZeroDivide}
use Rattle.numbers.specs.declared.integer.Integer.TheVariants as integers
use Rattle.numbers.specs.declared.boolean.Boolean.TheVariants as booleans
use Rattle.std.specs.Result.{result_ok}
use Rattle.numbers.specs.declared.fault.UnknownCode.{UnknownCode}
use Rattle.numbers.specs.Faults.{code_of, of_code, basic_of, Decodes}
use Rattle.numbers.proofs.Same.{same_number}
use Rattle.values.specs.Values.{Value, boolean, integer, error, size, encode, word, bit, integer_value, boolean_value}
use Rattle.values.proofs.Prefixes.{from_four, word_back}
use Rattle.value_reader.specs.Bytes.{byte}
use Rattle.value_reader.specs.Exactness.{Stands}
use Rattle.value_reader.specs.Scalars.{begins, Finds}
use Rattle.value_reader.proofs.Drops.{one_drop, four_drop, word_of}

-- What holds of an answer exactly if the bytes xs are the body of a value.
abbrev pub Parses : {A : Type 0} → (A → List ℕ) → List ℕ → Option A → Type 0
Parses {A} body xs r = (x : A) → (r ≡ Some x → xs ≡ body x) × (xs ≡ body x → r ≡ Some x)

-- A record begins.
pub begun : (kind long : ℕ) (bs : List ℕ) (at : ℕ) → begins kind long bs at ≡ true → (at + long ≤ length bs) × (byte bs at ≡ kind)
begun kind long bs at h =
    let p = and_parts (ltb at (length bs)) _ h in
    let q = and_parts (leb (at + long) (length bs)) (eqb (byte bs at) kind) p.1 in
    (leb-true _ _ q.0, eqb-true _ _ q.1)

-- Values whose bytes are a kind byte and a body of one length.
module _ {A : Type 0} (value : A → Value) (kind long : ℕ) (body : A → List ℕ)
    (made : (x : A) → encode (value x) ≡ kind ∷ body x) (sized : (x : A) → size (value x) ≡ suc long) (bs : List ℕ) (at : ℕ) where
  -- Where a value stands, its record begins, and its body follows.
  record_there : (x : A) → Stands bs at (at + size (value x)) (value x) → (begins kind (suc long) bs at ≡ true) × (take long (drop (at + 1) bs) ≡ body x)
  record_there x s =
      let whole : at + suc long ≤ length bs = omega (arith, s.within, sized x) in
      let same : byte bs at ∷ take long (drop (at + 1) bs) ≡ kind ∷ body x =
      ap (take (suc long)) (sym (one_drop bs at (omega arith))) ∙ ap (λ n. take n (drop at bs)) (sym (sized x)) ∙ s.bytes ∙ made x in
      (and_from _ _ (lt-ltb at (length bs) (omega arith)) (and_from _ _ (le-leb _ _ whole) (eq-eqb _ _ (cc))), cc)

  stands_there : begins kind (suc long) bs at ≡ true → (x : A) → take long (drop (at + 1) bs) ≡ body x → Stands bs at (at + size (value x)) (value x)
  stands_there b x e =
      let p = begun kind (suc long) bs at b in
      let whole = p.0 in
      record {
        within = omega (arith, whole, sized x);
        ends = refl;
        bytes =
            ap (λ n. take n (drop at bs)) (sized x) ∙ ap (take (suc long)) (one_drop bs at (omega arith))
            ∙ ap (λ k. k ∷ take long (drop (at + 1) bs)) p.1 ∙ ap (λ t. kind ∷ t) e ∙ sym (made x);
      }

  pub finds_unbegun : begins kind (suc long) bs at ≡ false → Finds value bs at None
  finds_unbegun h x = ((λ e. absurd (let z : ⊥ = cc in z)), (λ s. absurd (false≢true (sym h ∙ (record_there x s).0))))

  pub finds_body : begins kind (suc long) bs at ≡ true → (r : Option A) → Parses body (take long (drop (at + 1) bs)) r → Finds value bs at r
  finds_body b r each x = ((λ e. stands_there b x ((each x).0 e)), (λ s. (each x).1 (record_there x s).1))

-- A proper number.
pub number_made : (n : Number) → encode (integer n) ≡ 0x51 ∷ word n.value
unfolding encode
number_made n = refl

number_sized : (n : Number) → size (integer n) ≡ 5
unfolding size
number_sized n = refl

pub number_unbegun : (bs : List ℕ) (at : ℕ) → begins 0x51 5 bs at ≡ false → Finds integer bs at None
number_unbegun bs at h = finds_unbegun integer 0x51 4 (λ n. word n.value) number_made number_sized bs at h

number_found : (bs : List ℕ) (at : ℕ) → begins 0x51 5 bs at ≡ true → (r : Option Number) → Parses (λ n. word n.value) (take 4 (drop (at + 1) bs)) r → Finds integer bs at r
number_found bs at b r h = finds_body integer 0x51 4 (λ n. word n.value) number_made number_sized bs at b r h

word_is : (a b c d : ℕ) (n : Number) → a ∷ b ∷ c ∷ d ∷ [] ≡ word n.value → to_z w32 (from_four a b c d) ≡ n.value
word_is a b c d n k = ap (λ t. to_z w32 (from_four (get_or t 0 0) (get_or t 1 0) (get_or t 2 0) (get_or t 3 0))) k ∙ word_back n

-- The number of four bytes, if it is proper.
parses_number : (a b c d : ℕ) → a < 256 → b < 256 → c < 256 → d < 256 → (r : Option Number) (z : ℤ)
    → z ≡ to_z w32 (from_four a b c d) → MatchOption r (z ≡ negsuc 2147483647) (λ n. n.value ≡ z) → Parses (λ n. word n.value) (a ∷ b ∷ c ∷ d ∷ []) r
parses_number a b c d ha hb hc hd None z e h n = (
  (λ k. absurd (let y : ⊥ = cc in y)),
  (λ k.
      let same : z ≡ n.value = e ∙ word_is a b c d n k in
      let low = n.proper.0 in
      absurd (let y : ⊥ = omega (arith, ints) in y)),
)
parses_number a b c d ha hb hc hd (Some m) z e h n = (
  (λ k. let same : m ≡ n = cc in sym (word_of a b c d ha hb hc hd) ∙ ap word (sym e ∙ sym h ∙ ap (λ x. x.value) same)),
  (λ k. ap Some (same_number m n (h ∙ e ∙ word_is a b c d n k))),
)

-- The proper number of the four bytes behind the kind byte.
pub finds_number : (bs : List ℕ) (at : ℕ) → ((i : ℕ) → Fits w8 (get_or bs i 0)) → begins 0x51 5 bs at ≡ true → (xs : List ℕ) → xs ≡ take 4 (drop (at + 1) bs) → (r : Option Number) (z : ℤ)
    → z ≡ to_z w32 (from_four (get_or xs 0 0) (get_or xs 1 0) (get_or xs 2 0) (get_or xs 3 0)) → MatchOption r (z ≡ negsuc 2147483647) (λ n. n.value ≡ z) → Finds integer bs at r
finds_number bs at fit b xs e r z v h =
    let whole : at + 5 ≤ length bs = (begun 0x51 5 bs at b).0 in
    let four : take 4 (drop (at + 1) bs) ≡ byte bs (at + 1) ∷ byte bs (at + 1 + 1) ∷ byte bs (at + 1 + 2) ∷ byte bs (at + 1 + 3) ∷ [] = ap (take 4) (four_drop bs (at + 1) (omega arith)) in
    number_found bs at b r
    (subst (λ t. Parses (λ n. word n.value) t r) (sym four)
    (parses_number _ _ _ _ (fit (at + 1)).fits (fit (at + 1 + 1)).fits (fit (at + 1 + 2)).fits (fit (at + 1 + 3)).fits r z
    (v ∙ ap (λ t. to_z w32 (from_four (get_or t 0 0) (get_or t 1 0) (get_or t 2 0) (get_or t 3 0))) (e ∙ four)) h))

-- A truth value.
pub truth_made : (b : Bool) → encode (boolean b) ≡ 0x50 ∷ bit b ∷ []
unfolding encode
truth_made b = refl

truth_sized : (b : Bool) → size (boolean b) ≡ 2
unfolding size
truth_sized b = refl

pub truth_unbegun : (bs : List ℕ) (at : ℕ) → begins 0x50 2 bs at ≡ false → Finds boolean bs at None
truth_unbegun bs at h = finds_unbegun boolean 0x50 1 (λ b. bit b ∷ []) truth_made truth_sized bs at h

pub truth_found : (bs : List ℕ) (at : ℕ) → begins 0x50 2 bs at ≡ true → (r : Option Bool) → Parses (λ b. bit b ∷ []) (take 1 (drop (at + 1) bs)) r → Finds boolean bs at r
truth_found bs at b r h = finds_body boolean 0x50 1 (λ b. bit b ∷ []) truth_made truth_sized bs at b r h

-- An error value.
pub fault_made : (f : Fault) → encode (error f) ≡ 0x52 ∷ code_of f ∷ []
unfolding encode
fault_made f = refl

fault_sized : (f : Fault) → size (error f) ≡ 2
unfolding size
fault_sized f = refl

pub fault_unbegun : (bs : List ℕ) (at : ℕ) → begins 0x52 2 bs at ≡ false → Finds error bs at None
fault_unbegun bs at h = finds_unbegun error 0x52 1 (λ f. code_of f ∷ []) fault_made fault_sized bs at h

pub fault_found : (bs : List ℕ) (at : ℕ) → begins 0x52 2 bs at ≡ true → (r : Option Fault) → Parses (λ f. code_of f ∷ []) (take 1 (drop (at + 1) bs)) r → Finds error bs at r
fault_found bs at b r h = finds_body error 0x52 1 (λ f. code_of f ∷ []) fault_made fault_sized bs at b r h

-- One byte.
pub alone : (xs : List ℕ) (n : ℕ) → 1 ≤ length xs → length xs < 2 → get_or xs 0 0 ≡ n → xs ≡ n ∷ []
alone [] n some few e = absurd (let y : ⊥ = omega (arith, some) in y)
alone (x ∷ []) n some few e = ap (λ x. x ∷ []) e
alone (x ∷ y ∷ xs) n some few e = absurd (let z : ⊥ = omega (arith, few) in z)

byte_is : (b : Bool) → bool_byte b ≡ bit b
byte_is true = refl
byte_is false = refl

pub truth_bytes : (b : Bool) → 0x50 ∷ bool_byte b ∷ [] ≡ encode (boolean b)
truth_bytes b = ap (λ n. 0x50 ∷ n ∷ []) (byte_is b) ∙ sym (truth_made b)

pub parses_truth : (b : Bool) (xs : List ℕ) → xs ≡ bit b ∷ [] → Parses (λ b. bit b ∷ []) xs (Some b)
parses_truth b xs e x = ((λ k. let same : b ≡ x = cc in e ∙ ap (λ b. bit b ∷ []) same), (λ k. ap Some (same_bit b x (let z : bit b ≡ bit x = cc in z))))
  where
    same_bit : (a b : Bool) → bit a ≡ bit b → a ≡ b
    same_bit true true e = refl
    same_bit true false e = absurd (let y : ⊥ = omega arith in y)
    same_bit false true e = absurd (let y : ⊥ = omega arith in y)
    same_bit false false e = refl

pub parses_no_truth : (xs : List ℕ) → (xs ≡ 0 ∷ [] → ⊥) → (xs ≡ 1 ∷ [] → ⊥) → Parses (λ b. bit b ∷ []) xs None
parses_no_truth xs p q true = ((λ k. absurd (let y : ⊥ = cc in y)), (λ k. absurd (q k)))
parses_no_truth xs p q false = ((λ k. absurd (let y : ⊥ = cc in y)), (λ k. absurd (p k)))

code_back : (f : Fault) → of_code (code_of f) ≡ Some f
code_back Undef = refl
code_back MissElt = refl
code_back PosOver = refl
code_back NegOver = refl
code_back Unknown = refl
code_back ZeroDivide = refl

code_is : (n : ℕ) (f : Fault) → of_code n ≡ Some f → n ≡ code_of f
code_is n Undef e = grind (arith, nat_tests)
code_is n MissElt e = grind (arith, nat_tests)
code_is n PosOver e = grind (arith, nat_tests)
code_is n NegOver e = grind (arith, nat_tests)
code_is n Unknown e = grind (arith, nat_tests)
code_is n ZeroDivide e = grind (arith, nat_tests)

pub parses_fault : (n : ℕ) (xs : List ℕ) (t : Result Fault UnknownCode) → xs ≡ n ∷ [] → Decodes n t → Parses (λ f. code_of f ∷ []) xs (result_ok t)
parses_fault n xs (Ok g) e d f = (
  (λ h. let same : g ≡ f = cc in e ∙ ap (λ n. n ∷ []) (code_is n f (d ∙ ap Some same))),
  (λ h. let z : n ≡ code_of f = cc in sym d ∙ ap of_code z ∙ code_back f),
)
parses_fault n xs (Err u) e d f = (
  (λ h. absurd (let y : ⊥ = cc in y)),
  (λ h. let z : n ≡ code_of f = cc in sym d.0 ∙ ap of_code z ∙ code_back f),
)

-- A value of one kind is none of another.
module _ (bs : List ℕ) (at : ℕ) where
  number_kind : (n : Number) → Stands bs at (at + size (integer n)) (integer n) → byte bs at ≡ 0x51
  number_kind n s = (begun 0x51 5 bs at (record_there integer 0x51 4 (λ n. word n.value) number_made number_sized bs at n s).0).1

  truth_kind : (b : Bool) → Stands bs at (at + size (boolean b)) (boolean b) → byte bs at ≡ 0x50
  truth_kind b s = (begun 0x50 2 bs at (record_there boolean 0x50 1 (λ b. bit b ∷ []) truth_made truth_sized bs at b s).0).1

  fault_kind : (f : Fault) → Stands bs at (at + size (error f)) (error f) → byte bs at ≡ 0x52
  fault_kind f s = (begun 0x52 2 bs at (record_there error 0x52 1 (λ f. code_of f ∷ []) fault_made fault_sized bs at f s).0).1

  pub number_only : (n : Number) → Finds integer bs at (Some n) → Finds integer_value bs at (Some (integers.Proper n))
  number_only n h (integers.Proper m) = ((λ e. (h m).0 (let k : Some n ≡ Some m = cc in k)), (λ s. let k : Some n ≡ Some m = (h m).1 s in cc))
  number_only n h (integers.Error f) = (
    (λ e. absurd (let y : ⊥ = cc in y)),
    (λ s. absurd (let y : ⊥ = omega (arith, number_kind n ((h n).0 refl), fault_kind f s) in y)),
  )

  pub truth_only : (b : Bool) → Finds boolean bs at (Some b) → Finds boolean_value bs at (Some (booleans.Proper b))
  truth_only b h (booleans.Proper c) = ((λ e. (h c).0 (let k : Some b ≡ Some c = cc in k)), (λ s. let k : Some b ≡ Some c = (h c).1 s in cc))
  truth_only b h (booleans.Error f) = (
    (λ e. absurd (let y : ⊥ = cc in y)),
    (λ s. absurd (let y : ⊥ = omega (arith, truth_kind b ((h b).0 refl), fault_kind (basic_of f) s) in y)),
  )
