-- What `judged` answers, by where the value lies.
use Rattle.std.proofs.Common.{◌≡◌, Bool, true, false, ℤ, ◌≤ℤ◌, ◌<ℤ◌, sym, refl, ap, arith}
use lib.Signed.{lt_z}
use borrow.Author.Differences.{ints}
use Rattle.std.proofs.lemmas.Bool.{true≢false, false≢true}
use Rattle.numbers.specs.declared.number.Number.{Number}
use Rattle.numbers.specs.declared.fault.Fault.TheVariants.{PosOver, NegOver}
use Rattle.numbers.specs.declared.integer.Integer.TheVariants.{Proper, Error}
use Rattle.numbers.specs.Integers.{by_test, judged, not_above, not_below, greatest, least}
use Rattle.numbers.proofs.Same.{same_number}

pub by_true : {X : Type 0} (b : Bool) (f : b ≡ true → X) (g : b ≡ false → X) (x : X) → b ≡ true → ((e : b ≡ true) → f e ≡ x) → by_test b f g ≡ x
by_true true f g x e h = h refl
by_true false f g x e h = absurd (false≢true e)

pub by_false : {X : Type 0} (b : Bool) (f : b ≡ true → X) (g : b ≡ false → X) (x : X) → b ≡ false → ((e : b ≡ false) → g e ≡ x) → by_test b f g ≡ x
by_false true f g x e h = absurd (true≢false e)
by_false false f g x e h = h refl

pub is_lt : (a b : ℤ) → a <ℤ b → lt_z a b ≡ true
is_lt a b h = grind (arith, ints)

pub not_lt : (a b : ℤ) → b ≤ℤ a → lt_z a b ≡ false
not_lt a b h = grind (arith, ints)

pub judged_above : (z : ℤ) → greatest <ℤ z → judged z ≡ Error PosOver
judged_above z h = by_true (lt_z greatest z) _ _ _ (is_lt _ z h) (λ _. refl)

pub judged_below : (z : ℤ) → z <ℤ least → judged z ≡ Error NegOver
judged_below z h = by_false (lt_z greatest z) _ _ _ (not_lt greatest z (omega (arith, ints))) (λ _. by_true (lt_z z least) _ _ _ (is_lt z _ h) (λ _. refl))

pub judged_proper : (z : ℤ) (n : Number) → n.value ≡ z → judged z ≡ Proper n
judged_proper z n e =
    let low : least ≤ℤ z = omega (arith, ints, n.proper.0) in
    let high : z ≤ℤ greatest = omega (arith, ints, n.proper.1) in
    by_false (lt_z greatest z) _ _ _ (not_lt _ z high) (λ u. by_false (lt_z z least) _ _ _ (not_lt z _ low) (λ v. ap Proper (same_number (record { value = z; proper = (not_below z v, not_above z u) }) n (sym e))))
