-- The tests on lists of types and rows, as the library computes them.
use Rattle.std.proofs.Common.{◌≡◌, ℕ, Bool, ◌&&◌, ◌||◌, eqb, List, [], ◌∷◌, refl, ap, ap₂}
use Rattle.std.specs.Prelude.{nat_eq}
use Rattle.std.specs.Cmp.Lexicographic.{pointwise}
use Rattle.std.specs.List.{list_all, list_any}
use Rattle.values.specs.declared.row.Row.{Row}
use Rattle.language.specs.Sorts.{same, twins, has_twin}
use Rattle.verdict.specs.Judging.{every}

pub pointwise_same : (xs ys : List ℕ) → pointwise nat_eq xs ys ≡ same xs ys
pointwise_same [] [] = refl
pointwise_same [] (y ∷ ys) = refl
pointwise_same (x ∷ xs) [] = refl
pointwise_same (x ∷ xs) (y ∷ ys) = ap (λ b. eqb x y && b) (pointwise_same xs ys)

pub all_every : (u : ℕ) (xs : List ℕ) → list_all (λ t. eqb t u) xs ≡ every u xs
all_every u [] = refl
all_every u (x ∷ xs) = ap (λ b. eqb x u && b) (all_every u xs)

pub any_twin : (row : Row) (equals : Row → Bool) → ((q : Row) → equals q ≡ twins q row) → (rows : List Row) → list_any equals rows ≡ has_twin rows row
any_twin row equals h [] = refl
any_twin row equals h (q ∷ rows) = ap₂ ◌||◌ (h q) (any_twin row equals h rows)
