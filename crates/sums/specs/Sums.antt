-- What plus means for a list of integers.
use Rattle.std.specs.Prelude.{◌≡◌, Bool, cond, ◌&&◌, ◌||◌, List, [], ◌∷◌, ℤ, pos, ◌+ℤ◌}
use Rattle.std.specs.List.{list_any}
use Rattle.numbers.specs.declared.fault.Fault.TheVariants.{Undef, PosOver, NegOver, Unknown}
use Rattle.numbers.specs.declared.integer.Integer.{Integer}
use Rattle.numbers.specs.declared.integer.Integer.TheVariants.{Error}
use Rattle.numbers.specs.Integers.{judged, is_fault, barred}
use Rattle.arithmetic.specs.Arithmetic.{negative, positive}
use Rattle.merging.specs.Operators.{meaning}
use Rattle.sums.specs.Plus.{amount, plus}

-- The exact sum of the proper parts.
abbrev pub total : List Integer → ℤ
total [] = pos 0
total (p ∷ ps) = amount p +ℤ total ps

-- Unknown occurs, or both overs, or an over and a proper number of the other sign.
abbrev pub undecided : List Integer → Bool
undecided ps =
    list_any (is_fault Unknown) ps
    || (list_any (is_fault PosOver) ps && list_any (is_fault NegOver) ps)
    || (list_any (is_fault PosOver) ps && list_any negative ps)
    || (list_any (is_fault NegOver) ps && list_any positive ps)

-- Undef where undef, miss_elt or zero_divide occurs; else unknown where the sum is undecided; else the over that occurs; else
-- the exact sum judged against M.
abbrev pub sum_of : List Integer → Integer
sum_of ps =
    cond (list_any barred ps) (Error Undef)
    (cond (undecided ps) (Error Unknown)
    (cond (list_any (is_fault PosOver) ps) (Error PosOver)
    (cond (list_any (is_fault NegOver) ps) (Error NegOver)
    (judged (total ps)))))

-- The meaning of every list of parts.
abbrev pub PlusSums : Type 0
PlusSums = (ps : List Integer) → meaning plus ps ≡ sum_of ps
