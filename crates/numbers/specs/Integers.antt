-- Integers: a proper number, from -M to M, or one of six error values.
use Rattle.std.specs.Prelude.{◌≡◌, Bool, true, false, ℤ, pos, negsuc, ◌≤ℤ◌, int_lt, refl}
use Rattle.std.proofs.Common.{arith}
use Rattle.std.proofs.lemmas.Int.{ints}
use Rattle.numbers.specs.declared.fault.Fault.{Fault}
use Rattle.numbers.specs.declared.fault.Fault.TheVariants.{Undef, MissElt, PosOver, NegOver, Unknown, ZeroDivide}
use Rattle.numbers.specs.declared.integer.Integer.{Integer}
use Rattle.numbers.specs.declared.integer.Integer.TheVariants.{Proper, Error}
use Rattle.numbers.specs.Faults.{same_fault}

-- M, the greatest proper number, and -M, the least.
abbrev pub greatest : ℤ
greatest = pos 2147483647

abbrev pub least : ℤ
least = negsuc 2147483646

pub not_above : (z : ℤ) → int_lt greatest z ≡ false → z ≤ℤ greatest
not_above z e = omega (arith, ints)

pub not_below : (z : ℤ) → int_lt z least ≡ false → least ≤ℤ z
not_below z e = omega (arith, ints)

-- A test, with what its answer tells.
abbrev pub by_test : {X : Type 0} → (b : Bool) → (b ≡ true → X) → (b ≡ false → X) → X
by_test true f g = f refl
by_test false f g = g refl

-- An exact value judged against M: pos_over above M, neg_over below -M, else itself.
abbrev pub judged : ℤ → Integer
judged z =
    by_test (int_lt greatest z)
    (λ _. Error PosOver)
    (λ u. by_test (int_lt z least)
    (λ _. Error NegOver)
    (λ v. Proper (record { value = z; proper = (not_below z v, not_above z u) })))

abbrev pub is_error : Integer → Bool
is_error (Proper n) = false
is_error (Error f) = true

-- Whether an integer is this error value.
abbrev pub is_fault : Fault → Integer → Bool
is_fault g (Proper n) = false
is_fault g (Error f) = same_fault f g

-- To undef, miss_elt and zero_divide no rule applies: an operation on one of them gives undef.
abbrev pub barred : Integer → Bool
barred (Proper n) = false
barred (Error Undef) = true
barred (Error MissElt) = true
barred (Error PosOver) = false
barred (Error NegOver) = false
barred (Error Unknown) = false
barred (Error ZeroDivide) = true
