-- Figures: what the arithmetic, the comparisons and the operators give at some values.
use Rattle.std.specs.Prelude.{◌≡◌, ℕ, true, List, [], ◌∷◌, pos, neg_ℤ, fold, ◌≢◌}
use Rattle.numbers.specs.declared.fault.Fault.TheVariants.{PosOver, NegOver, Unknown, ZeroDivide}
use Rattle.numbers.specs.declared.integer.Integer.{Integer}
use Rattle.numbers.specs.declared.integer.Integer.TheVariants.{Error}
use Rattle.numbers.specs.declared.boolean.Boolean.TheVariants.{Proper}
use Rattle.numbers.specs.Integers.{judged, greatest}
use Rattle.arithmetic.specs.Arithmetic.{sum, product, quotient, modulus}
use Rattle.ordering.specs.Ranking.{maximum}
use Rattle.ordering.specs.Comparing.{less}
use Rattle.merging.specs.Operators.{meaning}
use Rattle.sums.specs.Plus.{plus}
use Rattle.choices.specs.Extremes.{greatest_of}

-- A proper number, and the one below 0 of that magnitude.
abbrev pub num : ℕ → Integer
num n = judged (pos n)

abbrev pub neg : ℕ → Integer
neg n = judged (neg_ℤ (pos n))

-- M, the greatest proper number: 2147483647.
abbrev pub M : Integer
M = judged greatest

-- M, 1 and −1.
abbrev pub three : List Integer
three = M ∷ (num 1 ∷ (neg 1 ∷ []))

-- One row for each figure: what is computed, and what it is.
abbrev pub Figures : Type 0
Figures =
    (sum M (num 1) ≡ Error PosOver)
    × (sum (Error PosOver) (neg 1) ≡ Error Unknown)
    × (product (num 0) (Error Unknown) ≡ num 0)
    × (less (num 5) (Error PosOver) ≡ Proper true)
    × (maximum (Error PosOver) (Error Unknown) ≡ Error PosOver)
    × (quotient (neg 7) (num 2) ≡ neg 3)
    × (modulus (neg 7) (num 2) ≡ neg 1)
    × (quotient (num 7) (num 0) ≡ Error ZeroDivide)
    × (meaning plus three ≡ M)
    × (meaning greatest_of [] ≡ Error NegOver)

-- The sum of M, 1 and −1 from the front on is unknown, since M + 1 is pos_over; so plus is not repeated addition.
abbrev pub NotRepeatedSum : Type 0
NotRepeatedSum = (fold sum (num 0) three ≡ Error Unknown) × (meaning plus three ≢ fold sum (num 0) three)
