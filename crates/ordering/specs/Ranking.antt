-- The greater and the lesser of two integers, each by a rank. The rules, of which the first that fits counts, both ways
-- round: 7a max(pos_over, J) is pos_over; 7b min(pos_over, J) is J; 7c max(neg_over, J) is J; 7d min(neg_over, J) is
-- neg_over; 7e and 7f max and min of unknown and J are unknown.
use Rattle.std.specs.Prelude.{◌≡◌, false, cond, ◌||◌, ℤ, pos, negsuc}
use Rattle.std.specs.Int.Signed.{lt_z}
use Rattle.numbers.specs.declared.fault.Fault.TheVariants.{Undef, MissElt, PosOver, NegOver, Unknown, ZeroDivide}
use Rattle.numbers.specs.declared.integer.Integer.{Integer}
use Rattle.numbers.specs.declared.integer.Integer.TheVariants.{Proper, Error}
use Rattle.numbers.specs.Integers.{is_fault, barred}

-- neg_over, then the proper numbers, then unknown, then pos_over; last what gives undef.
abbrev pub max_rank : Integer → ℤ
max_rank (Proper n) = n.value
max_rank (Error NegOver) = negsuc 2147483647
max_rank (Error Unknown) = pos 2147483648
max_rank (Error PosOver) = pos 2147483649
max_rank (Error Undef) = pos 2147483650
max_rank (Error MissElt) = pos 2147483650
max_rank (Error ZeroDivide) = pos 2147483650

-- pos_over, then the proper numbers downward, then unknown, then neg_over; last what gives undef.
abbrev pub min_rank : Integer → ℤ
min_rank (Proper n) = n.value
min_rank (Error PosOver) = pos 2147483648
min_rank (Error Unknown) = negsuc 2147483647
min_rank (Error NegOver) = negsuc 2147483648
min_rank (Error Undef) = negsuc 2147483649
min_rank (Error MissElt) = negsuc 2147483649
min_rank (Error ZeroDivide) = negsuc 2147483649

-- max(J, K) is the one of the higher rank.
abbrev pub maximum : Integer → Integer → Integer
maximum j k = cond (barred j || barred k) (Error Undef) (cond (lt_z (max_rank j) (max_rank k)) k j)

-- min(J, K) is the one of the lower rank.
abbrev pub minimum : Integer → Integer → Integer
minimum j k = cond (barred j || barred k) (Error Undef) (cond (lt_z (min_rank k) (min_rank j)) k j)

-- The rules of max, for every J that the rules apply to, both ways round.
pub record MaxOf (j : Integer) : Type 0 where
  pub rule_7a : (maximum (Error PosOver) j ≡ Error PosOver) × (maximum j (Error PosOver) ≡ Error PosOver)
  pub rule_7c : (maximum (Error NegOver) j ≡ j) × (maximum j (Error NegOver) ≡ j)
  pub rule_7e : is_fault PosOver j ≡ false → (maximum (Error Unknown) j ≡ Error Unknown) × (maximum j (Error Unknown) ≡ Error Unknown)

pub record MinOf (j : Integer) : Type 0 where
  pub rule_7b : (minimum (Error PosOver) j ≡ j) × (minimum j (Error PosOver) ≡ j)
  pub rule_7d : (minimum (Error NegOver) j ≡ Error NegOver) × (minimum j (Error NegOver) ≡ Error NegOver)
  pub rule_7f : is_fault NegOver j ≡ false → (minimum (Error Unknown) j ≡ Error Unknown) × (minimum j (Error Unknown) ≡ Error Unknown)

abbrev pub MaxRules : Type 0
MaxRules = (j : Integer) → barred j ≡ false → MaxOf j

abbrev pub MinRules : Type 0
MinRules = (j : Integer) → barred j ≡ false → MinOf j
