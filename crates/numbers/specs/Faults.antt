-- The six error values and their numbers.
use Rattle.std.specs.Prelude.{◌≡◌, ℕ, Bool, cond, Some, None, Option, Result, MatchResult, ◌==◌}
use Rattle.numbers.specs.declared.fault.Fault.{Fault}
use Rattle.numbers.specs.declared.fault.Fault.TheVariants.{Undef, MissElt, PosOver, NegOver, Unknown, ZeroDivide}
use Rattle.numbers.specs.declared.fault.BasicFault.{BasicFault}
use Rattle.numbers.specs.declared.fault.UnknownCode.{UnknownCode}
use Rattle.numbers.specs.declared.fault.IntegersOnly.{IntegersOnly}
use Rattle.numbers.specs.declared.fault.BasicFault.TheVariants as basic

-- The number of an error value.
abbrev pub code_of : Fault → ℕ
code_of Undef = 1
code_of MissElt = 2
code_of PosOver = 3
code_of NegOver = 4
code_of Unknown = 5
code_of ZeroDivide = 6

-- The error value with a number.
abbrev pub of_code : ℕ → Option Fault
of_code n =
    cond (n == 1) (Some Undef)
    (cond (n == 2) (Some MissElt)
    (cond (n == 3) (Some PosOver)
    (cond (n == 4) (Some NegOver)
    (cond (n == 5) (Some Unknown)
    (cond (n == 6) (Some ZeroDivide)
    None)))))

-- The error value with a number, or word that there is none with this one.
abbrev pub Decodes : ℕ → Result Fault UnknownCode → Type 0
Decodes n r = MatchResult r (λ f. of_code n ≡ Some f) (λ e. (of_code n ≡ None) × (e.0 ≡ n))

-- An error that every type has, as one of an integer's.
abbrev pub basic_of : BasicFault → Fault
basic_of basic.Undef = Undef
basic_of basic.MissElt = MissElt

-- The error as one that every type has, if it is.
abbrev pub narrowed : Fault → Option BasicFault
narrowed Undef = Some basic.Undef
narrowed MissElt = Some basic.MissElt
narrowed PosOver = None
narrowed NegOver = None
narrowed Unknown = None
narrowed ZeroDivide = None

abbrev pub Narrows : Fault → Result BasicFault IntegersOnly → Type 0
Narrows f r = MatchResult r (λ b. narrowed f ≡ Some b) (λ e. (narrowed f ≡ None) × (e.0 ≡ f))

-- Whether two errors are the same.
abbrev pub same_fault : Fault → Fault → Bool
same_fault f g = code_of f == code_of g
