-- The bound on the turns of a loop means nothing, since every turn takes a step.
use Rattle.std.proofs.Common.{◌≡◌, ℕ, zero, suc, ◌<◌, ◌≤◌, List, sym, refl, ◌∙◌, subst, arith}
use Rattle.values.specs.Values.{Value}
use Rattle.meaning.specs.Outcomes.{Outcome, finished, spent, full, after}
use Rattle.meaning.specs.Evaluation.{Turn, again, ended, turned, loop}
use Rattle.meaning.specs.Laws.{Below, Unbounded}

after_same : {A B : Type 0} (b : ℕ) (o : Outcome A) (next next' : A → ℕ → Outcome B) → Below b o → ((a : A) (l : ℕ) → l < b → next a l ≡ next' a l)
    → after o next ≡ after o next'
unfolding after Below
after_same b (finished a l) next next' h f = f a l h
after_same b spent next next' h f = refl
after_same b (full l) next next' h f = refl

turned_same : (next next' : List Value → ℕ → Outcome (List Value)) (t : Turn) (l : ℕ) → ((vs : List Value) → next vs l ≡ next' vs l)
    → turned next t l ≡ turned next' t l
unfolding turned
turned_same next next' (again vs) l h = h vs
turned_same next next' (ended vs) l h = refl

-- with no step left nothing happens
none_left : {A B : Type 0} (o : Outcome A) (next : A → ℕ → Outcome B) → Below 0 o → spent ≡ after o next
unfolding after Below
none_left (finished a l) next h = absurd (let z : ⊥ = omega arith in z)
none_left spent next h = refl
none_left (full l) next h = absurd (let z : ⊥ = omega arith in z)

module _ (turn : List Value → ℕ → Outcome Turn) (takes : (vs : List Value) (l : ℕ) → Below l (turn vs l)) where
  none_left_loop : (fuel : ℕ) (vs : List Value) (b : ℕ) → b ≤ 0 → spent ≡ loop turn fuel vs b
  unfolding loop
  none_left_loop zero vs b k = refl
  none_left_loop (suc fuel) vs b k = none_left (turn vs b) _ (subst (λ n. Below n (turn vs b)) (omega arith) (takes vs b))

  any_fuel : (fuel fuel' : ℕ) (vs : List Value) (b : ℕ) → b ≤ fuel → b ≤ fuel' → loop turn fuel vs b ≡ loop turn fuel' vs b
  unfolding loop
  any_fuel zero fuel' vs b k k' = none_left_loop fuel' vs b k
  any_fuel (suc fuel) zero vs b k k' = sym (none_left_loop (suc fuel) vs b k')
  any_fuel (suc fuel) (suc fuel') vs b k k' =
      after_same b (turn vs b) _ _ (takes vs b) (λ t l s. turned_same _ _ t l (λ us. any_fuel fuel fuel' us l (omega arith) (omega arith)))

  first_turn : (fuel : ℕ) (vs : List Value) (b : ℕ) → loop turn (suc fuel) vs b ≡ after (turn vs b) (turned (λ us l. loop turn fuel us l))
  unfolding loop
  first_turn fuel vs b = refl

  pub unbounded : (vs : List Value) (b : ℕ) → Unbounded turn vs b
  unbounded vs b =
      record {
        any_bound = λ fuel h. any_fuel fuel b vs b h (omega arith);
        turns =
            any_fuel b (suc b) vs b (omega arith) (omega arith)
            ∙ first_turn b vs b
            ∙ after_same b (turn vs b) _ _ (takes vs b) (λ t l s. turned_same _ _ t l (λ us. any_fuel b l us l (omega arith) (omega arith)));
      }
