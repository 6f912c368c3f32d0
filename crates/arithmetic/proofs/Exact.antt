-- Sums, products and remainders of proper numbers are exact at 64 bits.
use Rattle.std.proofs.Common.{◌≡◌, ℕ, zero, suc, ◌*◌, ◌/◌, ℤ, pos, negsuc, ◌+ℤ◌, ◌-ℤ◌, ◌*ℤ◌, neg_ℤ, ◌≤ℤ◌, sym, refl, ap, ◌∙◌, mul-zero, arith, w64, SFits}
use native.Mathlib.Nat.{div-add-mod}
use borrow.Author.Differences.{ints}
use lib.Signed.{quot_z, rem_z, mag_rem}
use Rattle.std.proofs.lemmas.Nat.{mul-le}
use Rattle.numbers.specs.declared.number.Number.{Number}
use Rattle.numbers.specs.Integers.{greatest, least}

-- The sum of two proper numbers fits 64 bits.
pub sum_fits : (m n : Number) → SFits w64 (m.value +ℤ n.value)
sum_fits m n = omega (arith, ints, m.proper.0, m.proper.1, n.proper.0, n.proper.1)

fits_by_sign : (x y : ℤ) → least ≤ℤ x → x ≤ℤ greatest → least ≤ℤ y → y ≤ℤ greatest → SFits w64 (x *ℤ y)
fits_by_sign (pos a) (pos b) h i j k = omega (arith, ints, mul-le a b 2147483647 2147483647 (omega (arith, ints)) (omega (arith, ints)))
fits_by_sign (pos a) (negsuc b) h i j k = omega (arith, ints, mul-le a (suc b) 2147483647 2147483647 (omega (arith, ints)) (omega (arith, ints)))
fits_by_sign (negsuc a) (pos b) h i j k = omega (arith, ints, mul-le (suc a) b 2147483647 2147483647 (omega (arith, ints)) (omega (arith, ints)))
fits_by_sign (negsuc a) (negsuc b) h i j k = omega (arith, ints, mul-le (suc a) (suc b) 2147483647 2147483647 (omega (arith, ints)) (omega (arith, ints)))

-- The product of two proper numbers fits 64 bits.
pub product_fits : (m n : Number) → SFits w64 (m.value *ℤ n.value)
product_fits m n = fits_by_sign m.value n.value m.proper.0 m.proper.1 n.proper.0 n.proper.1

pos_times_neg : (b q : ℕ) → pos b *ℤ neg_ℤ (pos q) ≡ neg_ℤ (pos (b * q))
pos_times_neg b zero = ap pos (mul-zero b) ∙ sym (ap (λ x. neg_ℤ (pos x)) (mul-zero b))
pos_times_neg b (suc q) = refl

neg_times_neg : (b q : ℕ) → negsuc b *ℤ neg_ℤ (pos q) ≡ pos (suc b * q)
neg_times_neg b zero = ap (λ x. neg_ℤ (pos x)) (mul-zero (suc b)) ∙ sym (ap pos (mul-zero (suc b)))
neg_times_neg b (suc q) = refl

-- What division toward zero leaves is the remainder with the dividend's sign.
pub left_over : (z d : ℤ) → z -ℤ d *ℤ quot_z z d ≡ rem_z z d
left_over (pos a) (pos b) = omega (arith, ints, div-add-mod a b)
left_over (pos a) (negsuc b) = rw (neg_times_neg b (a / suc b)) (omega (arith, ints, div-add-mod a (suc b)))
left_over (negsuc a) (pos b) = rw (pos_times_neg b (suc a / b)) (omega (arith, ints, div-add-mod (suc a) b))
left_over (negsuc a) (negsuc b) = omega (arith, ints, div-add-mod (suc a) (suc b))

rem_fits : (z d : ℤ) → SFits w64 z → SFits w64 (rem_z z d)
rem_fits z d f = record { sfits = omega (arith, mag_rem z d, f.sfits) }

-- The remainder of two proper numbers fits 64 bits.
pub remainder_fits : (m n : Number) → SFits w64 (rem_z m.value n.value)
remainder_fits m n = rem_fits m.value n.value (omega (arith, ints, m.proper.0, m.proper.1))
