-- The body of a record as so many bytes.
use Rattle.std.proofs.Common.{◌≡◌, ℕ, zero, suc, ◌+◌, ◌-◌, ◌<◌, ◌≤◌, Ok, List, ◌∷◌, length, get_or, take, drop, refl, ap, ◌∙◌, subst, arith, drop-cons}
use Rattle.verdict.specs.Outcomes.{accepted, whole}
use Rattle.verdict.proofs.Spans.{whole_found}
use Rattle.module_check.specs.Reading.{body_from, BodyRead}

taken : (n : ℕ) (bs : List ℕ) (p i : ℕ) → p + i + n ≤ length bs → take n (drop (p + i) bs) ≡ body_from n bs p i
taken zero bs p i h = refl
taken (suc n) bs p i h =
    let l : p + i < length bs = omega arith in
    let e : suc (p + i) ≡ p + (i + 1) = omega arith in
    let j : p + (i + 1) + n ≤ length bs = omega arith in
    ap (take (suc n)) (drop-cons bs (p + i) 0 l) ∙ ap (λ ys. get_or bs (p + i) 0 ∷ ys) (ap (λ k. take n (drop k bs)) e ∙ taken n bs p (i + 1) j)

-- So many bytes behind the kind byte are the body, where the bytes go so far.
pub body_taken : (n : ℕ) (bs : List ℕ) (p left : ℕ) (xs : List ℕ) → left ≡ length bs - p → n < left → xs ≡ take (p + 1 + n - (p + 1)) (drop (p + 1) bs) → BodyRead n bs p (p + 1 + n) (Ok xs)
body_taken n bs p left xs e h t =
    let k : p + 1 + n - (p + 1) ≡ n = omega arith in
    let q : p + (n + 1) ≡ p + 1 + n = omega arith in
    (subst (λ z. whole n bs p ≡ accepted tt z) q (whole_found n bs p (omega arith)), t ∙ (ap (λ z. take z (drop (p + 1) bs)) k ∙ taken n bs p 1 (omega arith)), omega arith)
