-- Reading one after the other, as a loop does it.
use Rattle.std.proofs.Common.{◌≡◌, ℕ, ◌+◌, ◌<◌, ◌≤◌, List, [], ◌∷◌, ◌++◌, length, get_or, drop, sym, refl, ap, ◌∙◌}
use Rattle.std.proofs.lemmas.List.{append_assoc, append-nil, drop_more, drop_all}
use Rattle.values.specs.declared.refusal.Refusal.{Refusal}
use Rattle.verdict.specs.Outcomes.{Out, accepted, refused, after, each}

-- Reading from the start comes to `done` and what is read from the i-th on.
abbrev pub Going : {A B : Type 0} → (A → ℕ → Out B) → List A → (start i : ℕ) → List B → (place : ℕ) → Type 0
Going f xs start i done place = each f xs start ≡ after (each f (drop i xs) place) (λ rest q. accepted (done ++ rest) q)

after_accepted : {A : Type 0} (o : Out A) → o ≡ after o (λ a q. accepted a q)
after_accepted (accepted a q) = refl
after_accepted (refused w) = refl

two_afters : {B : Type 0} (o : Out (List B)) (a : B) (done : List B) → after (after o (λ rest r. accepted (a ∷ rest) r)) (λ rest q. accepted (done ++ rest) q) ≡ after o (λ rest q. accepted ((done ++ a ∷ []) ++ rest) q)
two_afters (accepted rest r) a done = ap (λ z. accepted z r) (sym (append_assoc done (a ∷ []) rest))
two_afters (refused w) a done = refl

module _ {A B : Type 0} (f : A → ℕ → Out B) (xs : List A) (start : ℕ) where
  pub going_none : Going f xs start 0 [] start
  going_none = after_accepted (each f xs start)

  step : (i place : ℕ) (d : A) (o : Out B) → i < length xs → f (get_or xs i d) place ≡ o → each f (drop i xs) place ≡ after o (λ a q. after (each f (drop (i + 1) xs) q) (λ rest r. accepted (a ∷ rest) r))
  unfolding each
  step i place d o lt e = ap (λ ys. each f ys place) (drop_more xs i d lt) ∙ ap (λ z. after z (λ a q. after (each f (drop (i + 1) xs) q) (λ rest r. accepted (a ∷ rest) r))) e

  pub going_more : (i place next : ℕ) (d : A) (a : B) (done : List B) → i < length xs → f (get_or xs i d) place ≡ accepted a next → Going f xs start i done place → Going f xs start (i + 1) (done ++ a ∷ []) next
  going_more i place next d a done lt e h =
      h ∙ ap (λ z. after z (λ rest q. accepted (done ++ rest) q)) (step i place d (accepted a next) lt e)
      ∙ two_afters (each f (drop (i + 1) xs) next) a done

  pub going_fails : (i place : ℕ) (d : A) (done : List B) (w : Refusal) → i < length xs → f (get_or xs i d) place ≡ refused w → Going f xs start i done place → each f xs start ≡ refused w
  going_fails i place d done w lt e h = h ∙ ap (λ z. after z (λ rest q. accepted (done ++ rest) q)) (step i place d (refused w) lt e)

  pub going_all : (i place : ℕ) (done : List B) → length xs ≤ i → Going f xs start i done place → each f xs start ≡ accepted done place
  unfolding each
  going_all i place done le h =
      h ∙ ap (λ ys. after (each f ys place) (λ rest q. accepted (done ++ rest) q)) (drop_all i xs le)
      ∙ ap (λ z. accepted z place) (append-nil done)
