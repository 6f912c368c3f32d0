-- Bytes from an offset on.
use Rattle.std.proofs.Common.{◌≡◌, ℕ, ◌+◌, ◌*◌, ◌/◌, ◌%◌, ◌<◌, ◌≤◌, true, false, ◌&&◌, List, [], ◌∷◌, ◌++◌, length, get_or, take, drop, ℤ, pos, negsuc, ◌≤ℤ◌, sym, refl, ap, ◌∙◌, add-zero, arith, length-drop, get_or-drop, drop-drop, w8, w32, Fits, SFits, to_z, of_z}
use borrow.Author.Differences.{ints}
use lib.Signed.{lt_z}
use lib.Seq.{drop-append_seam}
use Rattle.std.proofs.lemmas.List.{drop_more}
use Rattle.std.proofs.lemmas.Int.{of_z-to_z, to_z-of_z}
use Rattle.std.proofs.lemmas.Bool.{and_from, and_parts, lt-ltb, ltb-true}
use Rattle.numbers.specs.declared.number.Number.{Number}
use Rattle.values.specs.Values.{two_bytes, four_bytes, word}
use Rattle.values.proofs.Prefixes.{from_four}
use Rattle.value_reader.specs.Bytes.{byte, pair_at, word_at, two_fit, four_fit}
use Rattle.value_reader.specs.Reading.{proper_at, ranged, indexed_at}

-- The bytes xs stand from an offset to an end.
pub record Span (bs : List ℕ) (at : ℕ) (xs : List ℕ) (end : ℕ) : Type 0 where
  pub rest : List ℕ
  pub stands : drop at bs ≡ xs ++ rest
  pub ends : end ≡ at + length xs

-- What stands behind the front.
pub onward : (bs front xs : List ℕ) (at : ℕ) → drop at bs ≡ front ++ xs → drop (at + length front) bs ≡ xs
onward bs front xs at e = sym (drop-drop (length front) at bs) ∙ ap (drop (length front)) e ∙ drop-append_seam front xs

pub byte_in : (bs xs : List ℕ) (at i : ℕ) → drop at bs ≡ xs → byte bs (at + i) ≡ get_or xs i 0
byte_in bs xs at i e = sym (get_or-drop at bs i 0) ∙ ap (λ t. get_or t i 0) e

pub byte_first : (bs xs : List ℕ) (at : ℕ) → drop at bs ≡ xs → byte bs at ≡ get_or xs 0 0
byte_first bs xs at e = ap (byte bs) (sym (add-zero at)) ∙ byte_in bs xs at 0 e

pub reaches : (bs xs : List ℕ) (at : ℕ) → drop at bs ≡ xs → 0 < length xs → at + length xs ≤ length bs
reaches bs xs at e some = omega (arith, length-drop at bs, ap length e)

-- Bytes that are there, one by one.
pub one_drop : (bs : List ℕ) (at : ℕ) → at + 1 ≤ length bs → drop at bs ≡ byte bs at ∷ drop (at + 1) bs
one_drop bs at h = drop_more bs at 0 (omega arith)

next_drop : (bs : List ℕ) (at k : ℕ) → at + k < length bs → drop (at + k) bs ≡ byte bs (at + k) ∷ drop (at + (k + 1)) bs
next_drop bs at k h = drop_more bs (at + k) 0 h ∙ ap (λ n. byte bs (at + k) ∷ drop n bs) (let z : at + k + 1 ≡ at + (k + 1) = omega arith in z)

pub two_drop : (bs : List ℕ) (at : ℕ) → at + 2 ≤ length bs → drop at bs ≡ byte bs at ∷ byte bs (at + 1) ∷ drop (at + 2) bs
two_drop bs at h = one_drop bs at (omega arith) ∙ ap (λ t. byte bs at ∷ t) (next_drop bs at 1 (omega arith))

pub four_drop : (bs : List ℕ) (at : ℕ) → at + 4 ≤ length bs → drop at bs ≡ byte bs at ∷ byte bs (at + 1) ∷ byte bs (at + 2) ∷ byte bs (at + 3) ∷ drop (at + 4) bs
four_drop bs at h =
    two_drop bs at (omega arith)
    ∙ ap (λ t. byte bs at ∷ byte bs (at + 1) ∷ t) (next_drop bs at 2 (omega arith))
    ∙ ap (λ t. byte bs at ∷ byte bs (at + 1) ∷ byte bs (at + 2) ∷ t) (next_drop bs at 3 (omega arith))

-- Two bytes and their number.
pub two_of : (a b : ℕ) → a < 256 → b < 256 → two_bytes (a * 256 + b) ≡ a ∷ b ∷ []
two_of a b h k =
    let p : (a * 256 + b) / 256 % 256 ≡ a = omega arith in
    let q : (a * 256 + b) % 256 ≡ b = omega arith in
    ap (λ x. x ∷ (a * 256 + b) % 256 ∷ []) p ∙ ap (λ y. a ∷ y ∷ []) q

-- Four bytes and their number.
module _ (a b c d : ℕ) (ha : a < 256) (hb : b < 256) (hc : c < 256) (hd : d < 256) where
  pub four_of : four_bytes (from_four a b c d) ≡ a ∷ b ∷ c ∷ d ∷ []
  four_of =
      let p : from_four a b c d / 16777216 % 256 ≡ a = omega arith in
      let q : from_four a b c d / 65536 % 256 ≡ b = omega arith in
      let r : from_four a b c d / 256 % 256 ≡ c = omega arith in
      let s : from_four a b c d % 256 ≡ d = omega arith in
      ap (λ x. x ∷ from_four a b c d / 65536 % 256 ∷ from_four a b c d / 256 % 256 ∷ from_four a b c d % 256 ∷ []) p
      ∙ ap (λ x. a ∷ x ∷ from_four a b c d / 256 % 256 ∷ from_four a b c d % 256 ∷ []) q
      ∙ ap (λ x. a ∷ b ∷ x ∷ from_four a b c d % 256 ∷ []) r
      ∙ ap (λ x. a ∷ b ∷ c ∷ x ∷ []) s

  pub word_of : word (to_z w32 (from_four a b c d)) ≡ a ∷ b ∷ c ∷ d ∷ []
  word_of = ap four_bytes (of_z-to_z w32 (from_four a b c d) (omega arith)) ∙ four_of

-- A number from its four bytes.
number_of : (z : ℤ) → lt_z (negsuc 2147483647) z ≡ true → z ≤ℤ pos 2147483647 → (n : Number) × (n.value ≡ z)
number_of z low high = (record { value = z; proper = (omega (arith, ints), high) }, refl)

word_high : (w : ℕ) → w < 4294967296 → to_z w32 w ≤ℤ pos 2147483647
word_high w h = omega (arith, ints)

pub proper_number : (bs : List ℕ) (at : ℕ) → proper_at bs at ≡ true
    → (n : Number) × (n.value ≡ word_at bs at) × (word n.value ≡ byte bs at ∷ byte bs (at + 1) ∷ byte bs (at + 2) ∷ byte bs (at + 3) ∷ [])
proper_number bs at h =
    let p = and_parts (four_fit bs at) (lt_z (negsuc 2147483647) (word_at bs at)) h in
    let q = and_parts (two_fit bs at) _ p.0 in
    let ab = and_parts _ _ q.0 in
    let cd = and_parts _ _ q.1 in
    let a = ltb-true (byte bs at) 256 ab.0 in
    let b = ltb-true (byte bs (at + 1)) 256 ab.1 in
    let c = ltb-true (byte bs (at + 2)) 256 cd.0 in
    let d = ltb-true (byte bs (at + 3)) 256 cd.1 in
    let n = number_of (word_at bs at) p.1 (word_high (from_four (byte bs at) (byte bs (at + 1)) (byte bs (at + 2)) (byte bs (at + 3))) (omega arith)) in
    (n.0, n.1, ap word n.1 ∙ word_of _ _ _ _ a b c d)

-- Bytes are bytes.
two_fit_there : (bs : List ℕ) (at : ℕ) → ((i : ℕ) → Fits w8 (get_or bs i 0)) → two_fit bs at ≡ true
two_fit_there bs at fit = and_from _ _ (lt-ltb _ 256 (fit at).fits) (lt-ltb _ 256 (fit (at + 1)).fits)

four_fit_there : (bs : List ℕ) (at : ℕ) → ((i : ℕ) → Fits w8 (get_or bs i 0)) → four_fit bs at ≡ true
four_fit_there bs at fit = and_from _ _ (two_fit_there bs at fit) (and_from _ _ (lt-ltb _ 256 (fit (at + 2)).fits) (lt-ltb _ 256 (fit (at + 3)).fits))

-- The number of four bytes that were copied out: proper, or the one that is not.
module _ (bs : List ℕ) (at : ℕ) (fit : (i : ℕ) → Fits w8 (get_or bs i 0)) (room : at + 4 ≤ length bs) (four : List ℕ) (same : four ≡ take 4 (drop at bs))
    (low : ℤ) (first : low ≡ to_z w32 (from_four (get_or four 0 0) (get_or four 1 0) (get_or four 2 0) (get_or four 3 0))) (fits : SFits w32 low) where
  word_there : low ≡ word_at bs at
  word_there = first ∙ ap (λ t. to_z w32 (from_four (get_or t 0 0) (get_or t 1 0) (get_or t 2 0) (get_or t 3 0))) (same ∙ ap (take 4) (four_drop bs at room))

  pub proper_there : (of_z w32 low ≡ 2147483648 → ⊥) → proper_at bs at ≡ true
  proper_there h =
      let test : lt_z (negsuc 2147483647) low ≡ true = grind (arith, ints) in
      and_from _ _ (four_fit_there bs at fit) (ap (lt_z (negsuc 2147483647)) (sym word_there) ∙ test)

  least_there : of_z w32 low ≡ 2147483648 → proper_at bs at ≡ false
  least_there h =
      let test : lt_z (negsuc 2147483647) low ≡ false = grind (arith, ints) in
      ap (λ b. b && lt_z (negsuc 2147483647) (word_at bs at)) (four_fit_there bs at fit) ∙ ap (lt_z (negsuc 2147483647)) (sym word_there) ∙ test

  -- And of two behind them, as an array's body.
  module _ (room' : at + 6 ≤ length bs) (two : List ℕ) (same' : two ≡ take 2 (drop (at + 4) bs)) (count : ℕ) (second : count ≡ get_or two 0 0 * 256 + get_or two 1 0) where
    pair_there : count ≡ pair_at bs (at + 4)
    pair_there = second ∙ ap (λ t. get_or t 0 0 * 256 + get_or t 1 0) (same' ∙ ap (take 2) (two_drop bs (at + 4) (omega arith)))

    pub proper_indexed : (of_z w32 low ≡ 2147483648 → ⊥) → ranged (to_z w32 (of_z w32 low)) count ≡ indexed_at bs at
    proper_indexed h =
        ap (λ z. ranged z count) (to_z-of_z w32 low fits ∙ word_there) ∙ ap (ranged (word_at bs at)) pair_there
        ∙ sym (ap (λ b. b && (two_fit bs (at + 4) && ranged (word_at bs at) (pair_at bs (at + 4)))) (proper_there h)
        ∙ ap (λ b. b && ranged (word_at bs at) (pair_at bs (at + 4))) (two_fit_there bs (at + 4) fit))

    pub least_indexed : of_z w32 low ≡ 2147483648 → false ≡ indexed_at bs at
    least_indexed h = sym (ap (λ b. b && (two_fit bs (at + 4) && ranged (word_at bs at) (pair_at bs (at + 4)))) (least_there h))
