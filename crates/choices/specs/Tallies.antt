-- The integers that a tally can be.
use Rattle.std.specs.Prelude.{◌≡◌, ℕ, false}
use Rattle.std.proofs.lemmas.Bool.{true≢false}
use Rattle.numbers.specs.declared.fault.Fault.TheVariants.{Undef, MissElt, PosOver, NegOver, Unknown, ZeroDivide}
use Rattle.numbers.specs.declared.integer.Integer.{Integer}
use Rattle.numbers.specs.declared.integer.Integer.TheVariants.{Proper, Error}
use Rattle.numbers.specs.Integers.{barred}
use Rattle.merging.specs.Operators.{Definition, Sized}

-- No tally is miss_elt or zero_divide.
abbrev pub Tally : Integer → Type 0
Tally (Proper n) = Unit {0}
Tally (Error Undef) = Unit {0}
Tally (Error MissElt) = ⊥
Tally (Error PosOver) = Unit {0}
Tally (Error NegOver) = Unit {0}
Tally (Error Unknown) = Unit {0}
Tally (Error ZeroDivide) = ⊥

-- No tally of parts is miss_elt or zero_divide.
abbrev pub NoMissedTally : Definition Integer Integer Integer → Type 0
NoMissedTally d = (n : ℕ) (t : Integer) → Sized d n t → Tally t

-- What is not barred can be a tally.
pub unbarred_tally : (a : Integer) → barred a ≡ false → Tally a
unbarred_tally (Proper n) e = tt
unbarred_tally (Error Undef) e = tt
unbarred_tally (Error MissElt) e = absurd (true≢false e)
unbarred_tally (Error PosOver) e = tt
unbarred_tally (Error NegOver) e = tt
unbarred_tally (Error Unknown) e = tt
unbarred_tally (Error ZeroDivide) e = absurd (true≢false e)
