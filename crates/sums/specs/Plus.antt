-- The operator plus: an exact sum, with notes of what occurred.
use Rattle.std.specs.Prelude.{false, ◌||◌, ℤ, pos, ◌+ℤ◌}
use Rattle.numbers.specs.declared.integer.Integer.{Integer}
use Rattle.numbers.specs.declared.integer.Integer.TheVariants.{Proper, Error}
use Rattle.arithmetic.specs.Arithmetic.{negative, positive}
use Rattle.merging.specs.Operators.{Definition}
use Rattle.sums.specs.declared.Sum.{Sum}
use Rattle.sums.specs.Notes.{no_notes, notes_of, both_notes, settled}

-- What a part adds: a proper number itself, and an error nothing.
abbrev pub amount : Integer → ℤ
amount (Proper n) = n.value
amount (Error f) = pos 0

-- No parts.
abbrev pub no_parts : Sum
no_parts = record { sum = pos 0; negative = false; positive = false; notes = no_notes }

-- One part: what it adds, and of what sort it is.
abbrev pub one_part : Integer → Sum
one_part p = record { sum = amount p; negative = negative p; positive = positive p; notes = notes_of p }

-- The parts of both: the sums are added, and what either noted is noted.
abbrev pub together : Sum → Sum → Sum
together a b = record {
  sum = a.sum +ℤ b.sum;
  negative = a.negative || b.negative;
  positive = a.positive || b.positive;
  notes = both_notes a.notes b.notes;
}

-- Plus, by these and by what the notes leave of the sum.
abbrev pub plus : Definition Integer Sum Integer
plus = record { start = no_parts; tally = one_part; join = together; close = λ t. settled t.notes t.sum t.negative t.positive }
