-- Two digits at a time.
use Rattle.std.proofs.Common.{◌≡◌, ℕ, zero, suc, ◌+◌, ◌*◌, ◌/◌, ◌%◌, ◌<◌, ◌≤◌, List, [], ◌∷◌, ◌++◌, length, get_or, take, drop, Some, None, Option, sym, refl, ap, ◌∙◌, append_assoc, append-nil, add-zero, arith, drop-cons, drop-drop, get_or-drop}
use Rattle.std.specs.Simd.{first_chunks}
use Rattle.std.proofs.lemmas.List.{drop_all, get_or-take}
use Rattle.value_text.specs.Hex.{digit_value, byte_of, before, first_byte, hex}

first_none : (o : Option ℕ) → first_byte o None ≡ None
first_none (Some b) = refl
first_none None = refl

pub odd_none : (bs : List ℕ) → (length bs % 2 ≡ 0 → ⊥) → hex bs ≡ None
unfolding hex
odd_none [] h = absurd (h refl)
odd_none (a ∷ []) h = refl
odd_none (a ∷ (b ∷ rest)) h =
    ap (first_byte (byte_of (digit_value a) (digit_value b))) (odd_none rest (λ e. h (omega (arith, e))))
    ∙ first_none (byte_of (digit_value a) (digit_value b))

two_more : (a b : ℕ) (rest : List ℕ) → hex (a ∷ (b ∷ rest)) ≡ first_byte (byte_of (digit_value a) (digit_value b)) (hex rest)
unfolding hex
two_more a b rest = refl

pub next_two : (bs : List ℕ) (i : ℕ) → 2 * i + 1 < length bs → hex (drop (2 * i) bs) ≡ first_byte (byte_of (digit_value (get_or bs (2 * i) 0)) (digit_value (get_or bs (2 * i + 1) 0))) (hex (drop (2 * (i + 1)) bs))
next_two bs i h =
    let one : suc (2 * i) ≡ 2 * i + 1 = omega arith in
    let two : suc (2 * i + 1) ≡ 2 * (i + 1) = omega arith in
    ap hex
    (drop-cons bs (2 * i) 0 (omega arith)
    ∙ ap (◌∷◌ (get_or bs (2 * i) 0))
    (ap (λ k. drop k bs) one
    ∙ drop-cons bs (2 * i + 1) 0 h
    ∙ ap (λ k. get_or bs (2 * i + 1) 0 ∷ drop k bs) two))
    ∙ two_more (get_or bs (2 * i) 0) (get_or bs (2 * i + 1) 0) (drop (2 * (i + 1)) bs)

before_more : (xs : List ℕ) (b : ℕ) (o : Option (List ℕ)) → before xs (first_byte (Some b) o) ≡ before (xs ++ b ∷ []) o
before_more xs b (Some ys) = ap Some (sym (append_assoc xs (b ∷ []) ys))
before_more xs b None = refl

-- The digits of a pair.
pair_at : (k i : ℕ) (xs : List ℕ) → i < k → get_or (first_chunks 2 k xs) i [] ≡ take 2 (drop (2 * i) xs)
pair_at zero i xs h = absurd (let y : ⊥ = omega arith in y)
pair_at (suc k) zero xs h = refl
pair_at (suc k) (suc i) xs h =
    pair_at k i (drop 2 xs) (omega arith) ∙ ap (take 2) (drop-drop (2 * i) 2 xs ∙ ap (λ n. drop n xs) (let z : 2 + 2 * i ≡ 2 * suc i = omega arith in z))

-- A turn of the loop over the pairs: a byte more, or none.
module _ (bs xs : List ℕ) (ps : List (List ℕ)) (i : ℕ) (front : ps ≡ first_chunks 2 (length bs / 2) bs) (long : length ps ≡ length bs / 2) (h : i < length ps)
    (inv : hex bs ≡ before xs (hex (drop (2 * i) bs))) where
  pair : get_or ps i [] ≡ take 2 (drop (2 * i) bs)
  pair = ap (λ ps. get_or ps i []) front ∙ pair_at (length bs / 2) i bs (omega (arith, long))

  high : get_or bs (2 * i) 0 ≡ get_or (get_or ps i []) 0 0
  high = ap (λ n. get_or bs n 0) (sym (add-zero (2 * i))) ∙ sym (ap (λ t. get_or t 0 0) pair ∙ get_or-take 2 (drop (2 * i) bs) 0 0 (omega arith) ∙ get_or-drop (2 * i) bs 0 0)

  low : get_or bs (2 * i + 1) 0 ≡ get_or (get_or ps i []) 1 0
  low = sym (ap (λ t. get_or t 1 0) pair ∙ get_or-take 2 (drop (2 * i) bs) 1 0 (omega arith) ∙ get_or-drop (2 * i) bs 1 0)

  next : hex bs ≡ before xs (first_byte (byte_of (digit_value (get_or (get_or ps i []) 0 0)) (digit_value (get_or (get_or ps i []) 1 0))) (hex (drop (2 * (i + 1)) bs)))
  next =
      inv
      ∙ ap (before xs) (next_two bs i (omega (arith, long))
      ∙ ap (λ d. first_byte (byte_of (digit_value d) (digit_value (get_or bs (2 * i + 1) 0))) (hex (drop (2 * (i + 1)) bs))) high
      ∙ ap (λ d. first_byte (byte_of (digit_value (get_or (get_or ps i []) 0 0)) (digit_value d)) (hex (drop (2 * (i + 1)) bs))) low)

  pub read_more : (b : ℕ) → Some b ≡ byte_of (digit_value (get_or (get_or ps i []) 0 0)) (digit_value (get_or (get_or ps i []) 1 0))
      → hex bs ≡ before (xs ++ b ∷ []) (hex (drop (2 * (i + 1)) bs))
  read_more b e = next ∙ ap (λ o. before xs (first_byte o (hex (drop (2 * (i + 1)) bs)))) (sym e) ∙ before_more xs b (hex (drop (2 * (i + 1)) bs))

  pub read_none : None ≡ byte_of (digit_value (get_or (get_or ps i []) 0 0)) (digit_value (get_or (get_or ps i []) 1 0)) → hex bs ≡ None
  read_none e = next ∙ ap (λ o. before xs (first_byte o (hex (drop (2 * (i + 1)) bs)))) (sym e)

nothing_left : hex [] ≡ Some []
unfolding hex
nothing_left = refl

-- No digits are left.
pub read_all : (bs xs : List ℕ) (i : ℕ) → hex bs ≡ before xs (hex (drop (2 * i) bs)) → length bs ≤ 2 * i → hex bs ≡ Some xs
read_all bs xs i inv h =
    inv ∙ ap (λ ys. before xs (hex ys)) (drop_all (2 * i) bs h) ∙ ap (before xs) nothing_left ∙ ap Some (append-nil xs)
