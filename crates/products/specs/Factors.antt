-- Multiplication by sign and magnitude. An over counts as 2147483648 with its sign, since what it gives times a number
-- other than 0 is over again.
use Rattle.std.specs.Prelude.{ℕ, zero, suc, ◌*◌, Bool, true, false, not, ℤ, pos, negsuc, neg_ℤ}
use Rattle.numbers.specs.declared.fault.Fault.TheVariants.{Undef, MissElt, PosOver, NegOver, Unknown, ZeroDivide}
use Rattle.numbers.specs.declared.integer.Integer.{Integer}
use Rattle.numbers.specs.declared.integer.Integer.TheVariants.{Proper, Error}
use Rattle.numbers.specs.Integers.{judged}

-- A sign, true for minus, and a magnitude; or unknown; or undefined.
pub data Factor : Type 0 where
  number : Bool → ℕ → Factor
  unknown : Factor
  undefined : Factor

abbrev pub of_number : ℤ → Factor
of_number (pos n) = number false n
of_number (negsuc n) = number true (suc n)

abbrev pub signed : Bool → ℕ → ℤ
signed false n = pos n
signed true n = neg_ℤ (pos n)

-- What an integer counts as.
abbrev pub factor : Integer → Factor
factor (Proper n) = of_number n.value
factor (Error Undef) = undefined
factor (Error MissElt) = undefined
factor (Error PosOver) = number false 2147483648
factor (Error NegOver) = number true 2147483648
factor (Error Unknown) = unknown
factor (Error ZeroDivide) = undefined

-- The integer that a factor comes to.
abbrev pub value : Factor → Integer
value (number s n) = judged (signed s n)
value unknown = Error Unknown
value undefined = Error Undef

-- Unknown times a magnitude.
abbrev pub of_unknown : ℕ → Factor
of_unknown zero = number false 0
of_unknown (suc n) = unknown

abbrev pub minus : Bool → Bool → Bool
minus false t = t
minus true t = not t

abbrev pub mul : Factor → Factor → Factor
mul (number s m) (number t n) = number (minus s t) (m * n)
mul (number s m) unknown = of_unknown m
mul (number s m) undefined = undefined
mul unknown (number t n) = of_unknown n
mul unknown unknown = unknown
mul unknown undefined = undefined
mul undefined k = undefined

-- The product of two integers by their factors.
abbrev pub multiplied : Integer → Integer → Integer
multiplied a b = value (mul (factor a) (factor b))

-- No tally is miss_elt or zero_divide.
abbrev pub Tally : Integer → Type 0
Tally (Proper n) = Unit {0}
Tally (Error Undef) = Unit {0}
Tally (Error MissElt) = ⊥
Tally (Error PosOver) = Unit {0}
Tally (Error NegOver) = Unit {0}
Tally (Error Unknown) = Unit {0}
Tally (Error ZeroDivide) = ⊥
