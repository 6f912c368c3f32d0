-- Multiplication by its rules is multiplication by sign and magnitude.
use Rattle.std.specs.Prelude.{◌≡◌, ℕ, zero, suc, ◌*◌, Bool, true, false, cond, not, ◌||◌, ℤ, pos, negsuc, ◌*ℤ◌, int_lt, refl}
use Rattle.std.proofs.Common.{sym, ap, ap₂, ◌∙◌, arith}
use Rattle.std.proofs.lemmas.Int.{ints}
use Rattle.numbers.specs.declared.fault.Fault.TheVariants.{Undef, MissElt, PosOver, NegOver, Unknown, ZeroDivide}
use Rattle.numbers.specs.declared.integer.Integer.{Integer}
use Rattle.numbers.specs.declared.integer.Integer.TheVariants.{Proper, Error}
use Rattle.numbers.specs.Integers.{judged}
use Rattle.numbers.proofs.Judging.{is_lt, not_lt}
use Rattle.arithmetic.specs.Arithmetic.{product, negation}
use Rattle.products.specs.Factors.{Factor, number, unknown, undefined, of_number, value, mul, multiplied}
use Rattle.products.specs.Multiplying.{big, times_undefined, times_comm}

exact : (x y : ℤ) → judged (x *ℤ y) ≡ value (mul (of_number x) (of_number y))
exact (pos a) (pos b) = refl
exact (pos a) (negsuc b) = refl
exact (negsuc a) (pos b) = refl
exact (negsuc a) (negsuc b) = refl

-- Whether a value is below 0, and whether it is above.
pub below_zero : (a : ℕ) → int_lt (pos (suc a)) (pos 0) ≡ false
below_zero a = not_lt (pos (suc a)) (pos 0) (omega (arith, ints))

pub above_zero : (a : ℕ) → int_lt (pos 0) (pos (suc a)) ≡ true
above_zero a = is_lt (pos 0) (pos (suc a)) (omega (arith, ints))

-- Rules 4a and 4c for a proper number, by whether it is below 0 and above 0.
abbrev rule_4a : Bool → Bool → Integer
rule_4a low high =
    cond (low || false) (Error NegOver)
    (cond (high || false) (Error PosOver)
    (cond (not (low || high)) (judged (pos 0))
    (Error Unknown)))

abbrev rule_4c : Bool → Bool → Integer
rule_4c low high = cond (not (low || high)) (judged (pos 0)) (Error Unknown)

by_pos_over : (z : ℤ) → rule_4a (int_lt z (pos 0)) (int_lt (pos 0) z) ≡ value (mul (of_number z) (number false 2147483648))
by_pos_over (pos zero) = refl
by_pos_over (pos (suc a)) = ap₂ rule_4a (below_zero a) (above_zero a) ∙ sym (big false (suc a * 2147483648) (omega arith))
by_pos_over (negsuc a) = sym (big true (suc a * 2147483648) (omega arith))

by_neg_over : (z : ℤ) → negation (rule_4a (int_lt z (pos 0)) (int_lt (pos 0) z)) ≡ value (mul (of_number z) (number true 2147483648))
by_neg_over (pos zero) = refl
by_neg_over (pos (suc a)) = ap negation (ap₂ rule_4a (below_zero a) (above_zero a)) ∙ sym (big true (suc a * 2147483648) (omega arith))
by_neg_over (negsuc a) = sym (big false (suc a * 2147483648) (omega arith))

by_unknown : (z : ℤ) → rule_4c (int_lt z (pos 0)) (int_lt (pos 0) z) ≡ value (mul (of_number z) unknown)
by_unknown (pos zero) = refl
by_unknown (pos (suc a)) = ap₂ rule_4c (below_zero a) (above_zero a)
by_unknown (negsuc a) = refl

-- The same with the factors exchanged.
turned : {r : Integer} (k l : Factor) → r ≡ value (mul k l) → r ≡ value (mul l k)
turned k l e = e ∙ ap value (times_comm k l)

barred_right : (z : ℤ) → Error Undef ≡ value (mul (of_number z) undefined)
barred_right z = sym (ap value (times_undefined (of_number z)))

pub by_factors : (j k : Integer) → product j k ≡ multiplied j k
by_factors (Proper m) (Proper n) = exact m.value n.value
by_factors (Proper m) (Error Undef) = barred_right m.value
by_factors (Proper m) (Error MissElt) = barred_right m.value
by_factors (Proper m) (Error ZeroDivide) = barred_right m.value
by_factors (Proper m) (Error PosOver) = by_pos_over m.value
by_factors (Proper m) (Error NegOver) = by_neg_over m.value
by_factors (Proper m) (Error Unknown) = by_unknown m.value
by_factors (Error Undef) k = refl
by_factors (Error MissElt) k = refl
by_factors (Error ZeroDivide) k = refl
by_factors (Error PosOver) (Proper n) = turned (of_number n.value) (number false 2147483648) (by_pos_over n.value)
by_factors (Error PosOver) (Error Undef) = refl
by_factors (Error PosOver) (Error MissElt) = refl
by_factors (Error PosOver) (Error PosOver) = refl
by_factors (Error PosOver) (Error NegOver) = refl
by_factors (Error PosOver) (Error Unknown) = refl
by_factors (Error PosOver) (Error ZeroDivide) = refl
by_factors (Error NegOver) (Proper n) = turned (of_number n.value) (number true 2147483648) (by_neg_over n.value)
by_factors (Error NegOver) (Error Undef) = refl
by_factors (Error NegOver) (Error MissElt) = refl
by_factors (Error NegOver) (Error PosOver) = refl
by_factors (Error NegOver) (Error NegOver) = refl
by_factors (Error NegOver) (Error Unknown) = refl
by_factors (Error NegOver) (Error ZeroDivide) = refl
by_factors (Error Unknown) (Proper n) = turned (of_number n.value) unknown (by_unknown n.value)
by_factors (Error Unknown) (Error Undef) = refl
by_factors (Error Unknown) (Error MissElt) = refl
by_factors (Error Unknown) (Error PosOver) = refl
by_factors (Error Unknown) (Error NegOver) = refl
by_factors (Error Unknown) (Error Unknown) = refl
by_factors (Error Unknown) (Error ZeroDivide) = refl
