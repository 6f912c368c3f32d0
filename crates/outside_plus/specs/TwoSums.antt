-- Plus by two sums: of what is below 0 and of what is above.
use Rattle.std.specs.Prelude.{◌≡◌, List, pos, ◌+ℤ◌, int_lt}
use Rattle.std.specs.Int.{int_min, int_max}
use Rattle.numbers.specs.declared.integer.Integer.{Integer}
use Rattle.merging.specs.Operators.{Definition, meaning}
use Rattle.sums.specs.Notes.{no_notes, notes_of, both_notes, settled}
use Rattle.sums.specs.Plus.{amount, plus}
use Rattle.outside_plus.specs.declared.Sides.{Sides}

-- No parts.
abbrev pub no_parts : Sides
no_parts = record { below = pos 0; above = pos 0; notes = no_notes }

-- One part adds to the side on which it lies.
abbrev pub one_part : Integer → Sides
one_part p = record { below = int_min (amount p) (pos 0); above = int_max (amount p) (pos 0); notes = notes_of p }

-- The parts of both.
abbrev pub together : Sides → Sides → Sides
together a b = record { below = a.below +ℤ b.below; above = a.above +ℤ b.above; notes = both_notes a.notes b.notes }

-- What the notes leave of both sides together: a side other than 0 has a part on it.
abbrev pub closed : Sides → Integer
closed t = settled t.notes (t.above +ℤ t.below) (int_lt t.below (pos 0)) (int_lt (pos 0) t.above)

-- Plus, by these four.
abbrev pub two_sums : Definition Integer Sides Integer
two_sums = record { start = no_parts; tally = one_part; join = together; close = closed }

-- Every list means the same as by plus.
abbrev pub SameAsPlus : Type 0
SameAsPlus = (ps : List Integer) → meaning two_sums ps ≡ meaning plus ps
