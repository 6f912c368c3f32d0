-- The indices of a forall.
use Rattle.std.proofs.Common.{◌≡◌, ℕ, zero, suc, ◌<◌, Bool, true, false, ℤ, pos, negsuc, ◌+ℤ◌, ◌-ℤ◌, ◌≤ℤ◌, ◌<ℤ◌, refl, ◌∙◌, arith}
use borrow.Author.Differences.{ints}
use Rattle.std.proofs.lemmas.Bool.{false≢true}
use lib.Signed.{lt_z}
use Rattle.numbers.specs.declared.number.Number.{Number}
use Rattle.numbers.specs.Integers.{greatest, by_test}
use Rattle.numbers.proofs.Judging.{is_lt}
use Rattle.meaning.specs.Evaluation.{next_index, not_negative, span}
use Rattle.meaning.specs.Laws.{index_after, IndicesGoUp}

at_true : (b : Bool) (f : b ≡ true → Number) (g : b ≡ false → Number) (z : ℤ) → b ≡ true → ((e : b ≡ true) → (f e).value ≡ z)
    → (by_test b f g).value ≡ z
at_true true f g z e h = h refl
at_true false f g z e h = absurd (false≢true e)

-- Behind a number below M comes the next.
pub next_value : (n : Number) → n.value <ℤ greatest → (next_index n).value ≡ n.value +ℤ pos 1
unfolding next_index
next_value n h = at_true (lt_z n.value greatest) _ _ _ (is_lt n.value greatest h) (λ e. refl)

after_value : (i : Number) (k : ℕ) → (i.value +ℤ pos k) ≤ℤ greatest → (index_after i k).value ≡ i.value +ℤ pos k
after_value i zero h = omega (arith, ints)
after_value i (suc k) h =
    let next = next_value i (omega (arith, ints)) in
    after_value (next_index i) k (omega (arith, ints, next)) ∙ omega (arith, ints, next)

module _ (low high : Number) where
  count_up : (z : ℤ) → z ≡ high.value +ℤ pos 1 -ℤ low.value → low.value ≤ℤ high.value → low.value +ℤ pos (not_negative z) ≡ high.value +ℤ pos 1
  count_up (pos n) e h = omega (arith, ints)
  count_up (negsuc n) e h = absurd (let z : ⊥ = omega (arith, ints, e) in z)

  count_none : (z : ℤ) → z ≡ high.value +ℤ pos 1 -ℤ low.value → high.value <ℤ low.value → not_negative z ≡ 0
  count_none (pos n) e h = omega (arith, ints, e)
  count_none (negsuc n) e h = refl

  below_count : (z : ℤ) → z ≡ high.value +ℤ pos 1 -ℤ low.value → (k : ℕ) → k < not_negative z → (low.value +ℤ pos k) ≤ℤ greatest
  below_count (pos n) e k h = omega (arith, ints, e, high.proper.1)
  below_count (negsuc n) e k h = absurd (let z : ⊥ = omega arith in z)

pub indices_go_up : IndicesGoUp
unfolding span
indices_go_up low high =
    record {
      each = λ k h. after_value low k (below_count low high _ refl k h);
      up_to_high = λ h. count_up low high _ refl h;
      nothing = λ h. count_none low high _ refl h;
    }
