-- Undefs laid one behind the other.
use Rattle.std.proofs.Common.{◌≡◌, ℕ, zero, suc, ◌+◌, ◌*◌, ◌<◌, ◌≤◌, List, [], ◌∷◌, ◌++◌, length, take, drop, Some, None, sym, refl, ap, ◌∙◌, append_assoc, add-zero, arith, length-append, drop-drop}
use Rattle.std.proofs.lemmas.List.{take_at, drop_at, length-take-le, take-append-drop}
use Rattle.numbers.specs.declared.fault.Fault.TheVariants.{Undef}
use Rattle.values.specs.Values.{encode, encodes, error}
use Rattle.value_reader.specs.Scalars.{Laid}
use Rattle.stack.specs.Laying.{over}
use Rattle.stack.specs.Undefs.{undefs}

-- The bytes of an undef.
abbrev pub undef_bytes : List ℕ
undef_bytes = encode (error Undef)

two_bytes : length undef_bytes ≡ 2
unfolding encode
two_bytes = refl

pub undefs_long : (n : ℕ) → length (encodes (undefs n)) ≡ 2 * n
unfolding encode encodes
undefs_long zero = refl
undefs_long (suc n) = omega (arith, undefs_long n)

pub undefs_none : encodes (undefs 0) ≡ []
unfolding encodes
undefs_none = refl

one_more : (n : ℕ) → encodes (undefs (suc n)) ≡ encodes (undefs n) ++ undef_bytes
unfolding encode encodes
one_more zero = refl
one_more (suc n) = ap (λ t. 0x52 ∷ 1 ∷ t) (one_more n)

pub undefs_more : (n : ℕ) → encodes (undefs (n + 1)) ≡ encodes (undefs n) ++ undef_bytes
undefs_more n = ap (λ k. encodes (undefs k)) (let e : n + 1 ≡ suc n = omega arith in e) ∙ one_more n

-- Bytes laid behind others that were laid are laid with them.
pub over_over : (s xs ys : List ℕ) (top k : ℕ) → k ≡ top + length xs → k ≤ length s → over (over s top xs) k ys ≡ over s top (xs ++ ys)
over_over s xs ys top k e fits =
    let front : length (take top s ++ xs) ≡ k = length-append (take top s) xs ∙ ap (λ n. n + length xs) (length-take-le top s (omega arith)) ∙ sym e in
    let parts : over s top xs ≡ (take top s ++ xs) ++ drop (top + length xs) s = sym (append_assoc (take top s) xs (drop (top + length xs) s)) in
    let below : take k (over s top xs) ≡ take top s ++ xs = ap (take k) parts ∙ take_at _ _ k front in
    let behind : drop k (over s top xs) ≡ drop (top + length xs) s = ap (drop k) parts ∙ drop_at _ _ k front in
    let long : top + length xs + length ys ≡ top + length (xs ++ ys) = omega (arith, length-append xs ys) in
    let rest : drop (k + length ys) (over s top xs) ≡ drop (top + length (xs ++ ys)) s =
    sym (drop-drop (length ys) k (over s top xs)) ∙ ap (drop (length ys)) behind ∙ drop-drop (length ys) (top + length xs) s ∙ ap (λ n. drop n s) long in
    ap (λ t. t ++ (ys ++ drop (k + length ys) (over s top xs))) below
    ∙ ap (λ t. (take top s ++ xs) ++ (ys ++ t)) rest
    ∙ append_assoc (take top s) xs (ys ++ drop (top + length (xs ++ ys)) s)
    ∙ ap (λ t. take top s ++ t) (sym (append_assoc xs ys (drop (top + length (xs ++ ys)) s)))

-- A store before, and one on which some undefs are laid.
module _ (s t : List ℕ) (top n end : ℕ) (laid : Laid s t top (encodes (undefs n)) (Some end)) where
  pub one_laid : (u : List ℕ) (next : ℕ) → length t ≡ length s → Laid t u end undef_bytes (Some next) → Laid s u top (encodes (undefs (n + 1))) (Some next)
  one_laid u next same h =
      let room : top + length (encodes (undefs (n + 1))) ≤ length s = omega (arith, undefs_long n, undefs_long (n + 1), two_bytes, laid.1, h.0, same) in
      let place : next ≡ top + length (encodes (undefs (n + 1))) = omega (arith, undefs_long n, undefs_long (n + 1), two_bytes, laid.1, h.1) in
      (room, place, h.2 ∙ ap (λ z. over z end undef_bytes) laid.2 ∙ over_over s (encodes (undefs n)) undef_bytes top end laid.1 (omega (arith, laid.0, laid.1)) ∙ ap (over s top) (sym (undefs_more n)))

  pub room_for_one : (u : List ℕ) (count : ℕ) → length t ≡ length s → top + 2 * count ≤ length s → n < count → Laid t u end undef_bytes None → ⊥
  room_for_one u count same room more h = omega (arith, undefs_long n, two_bytes, laid.1, h.0, same)

pub none_laid : (s : List ℕ) (top : ℕ) → top ≤ length s → Laid s s top (encodes (undefs 0)) (Some top)
none_laid s top h =
    let long = undefs_long 0 in
    (omega (arith, long), omega (arith, long), sym (ap (over s top) undefs_none ∙ ap (λ n. take top s ++ drop n s) (add-zero top) ∙ take-append-drop top s))
