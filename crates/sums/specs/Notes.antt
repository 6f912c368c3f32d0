-- Notes of what occurred among parts beside proper numbers, and what they leave of a sum.
use Rattle.std.specs.Prelude.{Bool, false, cond, ◌&&◌, ◌||◌, ℤ}
use Rattle.numbers.specs.declared.fault.Fault.TheVariants.{Undef, PosOver, NegOver, Unknown}
use Rattle.numbers.specs.declared.integer.Integer.{Integer}
use Rattle.numbers.specs.declared.integer.Integer.TheVariants.{Error}
use Rattle.numbers.specs.Integers.{judged, is_fault, barred}
use Rattle.sums.specs.declared.notes.Notes.{Notes}

-- Of no parts.
abbrev pub no_notes : Notes
no_notes = record { pos_over = false; neg_over = false; unknown = false; undef = false }

-- Of one part: of what sort it is.
abbrev pub notes_of : Integer → Notes
notes_of p = record { pos_over = is_fault PosOver p; neg_over = is_fault NegOver p; unknown = is_fault Unknown p; undef = barred p }

-- Of the parts of both: what either noted is noted.
abbrev pub both_notes : Notes → Notes → Notes
both_notes a b = record {
  pos_over = a.pos_over || b.pos_over;
  neg_over = a.neg_over || b.neg_over;
  unknown = a.unknown || b.unknown;
  undef = a.undef || b.undef;
}

-- A part was unknown, or an over met the other over or a number of the other sign.
abbrev pub unsettled : Notes → (negative positive : Bool) → Bool
unsettled n negative positive = n.unknown || (n.pos_over && n.neg_over) || (n.pos_over && negative) || (n.neg_over && positive)

-- The first of these that fits: undef, unknown, the over that occurred, the exact sum judged against M.
abbrev pub settled : Notes → (sum : ℤ) (negative positive : Bool) → Integer
settled n sum negative positive =
    cond n.undef (Error Undef)
    (cond (unsettled n negative positive) (Error Unknown)
    (cond n.pos_over (Error PosOver)
    (cond n.neg_over (Error NegOver)
    (judged sum))))
