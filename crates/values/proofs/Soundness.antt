-- A table stays sound.
use Rattle.std.proofs.Common.{◌≡◌, ℕ, ◌+◌, ◌<◌, ◌≤◌, Bool, true, false, cond, leb, List, [], ◌∷◌, ◌++◌, length, refl, ap, ◌∙◌, subst, arith}
use Rattle.std.proofs.lemmas.List.{length_push}
use Rattle.std.proofs.lemmas.Bool.{and_parts, and_from, le-leb, leb-true}
use Rattle.values.specs.declared.row.Row.{Row}
use Rattle.values.specs.Rows.{all_below, uses, lower_from, sound}

pub sound_none : sound [] ≡ true
unfolding sound lower_from
sound_none = refl

lower_push : (n : ℕ) (rows : List Row) (r : Row) → lower_from n rows ≡ true → all_below (n + length rows) (uses r) ≡ true → lower_from n (rows ++ r ∷ []) ≡ true
unfolding lower_from
lower_push n [] r l h = and_from _ _ (subst (λ k. all_below k (uses r) ≡ true) (omega arith) h) refl
lower_push n (q ∷ rows) r l h =
    let p = and_parts (all_below n (uses q)) (lower_from (n + 1) rows) l in
    and_from _ _ p.0 (lower_push (n + 1) rows r p.1 (subst (λ k. all_below k (uses r) ≡ true) (omega arith) h))

pub sound_few : (rows : List Row) → sound rows ≡ true → length rows ≤ 60
unfolding sound
sound_few rows s = leb-true (length rows) 60 (and_parts (leb (length rows) 60) (lower_from 2 rows) s).0

pub sound_lower : (rows : List Row) → sound rows ≡ true → lower_from 2 rows ≡ true
unfolding sound
sound_lower rows s = (and_parts (leb (length rows) 60) (lower_from 2 rows) s).1

sound_push : (rows : List Row) (r : Row) → sound rows ≡ true → length rows < 60 → all_below (length rows + 2) (uses r) ≡ true → sound (rows ++ r ∷ []) ≡ true
unfolding sound
sound_push rows r s few h =
    and_from _ _ (le-leb _ 60 (omega (arith, length_push rows r)))
    (lower_push 2 rows r (sound_lower rows s) (subst (λ k. all_below k (uses r) ≡ true) (omega arith) h))

-- A table stays sound, whether or not the push found memory.
pub sound_pushed : (before after : List Row) (r : Row) (ok : Bool) → after ≡ cond ok (before ++ r ∷ []) before → sound before ≡ true → length before < 60 → all_below (length before + 2) (uses r) ≡ true → sound after ≡ true
sound_pushed before after r true e s few h = ap sound e ∙ sound_push before r s few h
sound_pushed before after r false e s few h = ap sound e ∙ s
