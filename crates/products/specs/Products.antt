-- What times means for a list of integers.
use Rattle.std.specs.Prelude.{◌≡◌, ℕ, cond, List, [], ◌∷◌, ℤ, pos, negsuc, ◌*ℤ◌}
use Rattle.std.specs.List.{list_any}
use Rattle.numbers.specs.declared.fault.Fault.TheVariants.{Undef, MissElt, PosOver, NegOver, Unknown, ZeroDivide}
use Rattle.numbers.specs.declared.integer.Integer.{Integer}
use Rattle.numbers.specs.declared.integer.Integer.TheVariants.{Proper, Error}
use Rattle.numbers.specs.Integers.{judged, is_fault, barred}
use Rattle.arithmetic.specs.Arithmetic.{is_zero}
use Rattle.merging.specs.Operators.{Sized, meaning}
use Rattle.products.specs.Times.{times}
use Rattle.products.specs.Factors.{Tally}

-- What a part multiplies by: a proper number itself, and an over 2147483648 with its sign. Where any other part occurs, no
-- product is asked for.
abbrev pub weight : Integer → ℤ
weight (Proper n) = n.value
weight (Error PosOver) = pos 2147483648
weight (Error NegOver) = negsuc 2147483647
weight (Error Unknown) = pos 1
weight (Error Undef) = pos 1
weight (Error MissElt) = pos 1
weight (Error ZeroDivide) = pos 1

-- The exact product of the parts.
abbrev pub exact_product : List Integer → ℤ
exact_product [] = pos 1
exact_product (p ∷ ps) = weight p *ℤ exact_product ps

-- Undef where undef, miss_elt or zero_divide occurs; else 0 where a 0 occurs; else unknown where unknown occurs; else the
-- exact product judged against M.
abbrev pub product_of : List Integer → Integer
product_of ps =
    cond (list_any barred ps) (Error Undef)
    (cond (list_any is_zero ps) (judged (pos 0))
    (cond (list_any (is_fault Unknown) ps) (Error Unknown)
    (judged (exact_product ps))))

-- The meaning of every list of parts.
abbrev pub TimesMultiplies : Type 0
TimesMultiplies = (ps : List Integer) → meaning times ps ≡ product_of ps

-- No tally of parts is miss_elt or zero_divide.
abbrev pub NoMissedTally : Type 0
NoMissedTally = (n : ℕ) (t : Integer) → Sized times n t → Tally t
