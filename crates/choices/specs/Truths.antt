-- The operators and and or, and what they mean for a list of booleans.
use Rattle.std.specs.Prelude.{◌≡◌, ℕ, Bool, true, false, cond, List}
use Rattle.std.specs.List.{list_any, list_all}
use Rattle.numbers.specs.declared.fault.BasicFault.TheVariants.{Undef}
use Rattle.numbers.specs.declared.boolean.Boolean.{Boolean}
use Rattle.numbers.specs.declared.boolean.Boolean.TheVariants.{Proper, Error}
use Rattle.numbers.specs.Booleans.{both, either, is_error}
use Rattle.merging.specs.Operators.{Definition, Sized, meaning}
use Rattle.merging.specs.Operations.{combining}

-- And of no parts is true.
abbrev pub all_of : Definition Boolean Boolean Boolean
all_of = combining (Proper true) both

-- Or of no parts is false.
abbrev pub some_of : Definition Boolean Boolean Boolean
some_of = combining (Proper false) either

-- A part that is true.
abbrev pub is_true : Boolean → Bool
is_true (Proper p) = p
is_true (Error f) = false

-- Undef where an error occurs, else a truth value.
abbrev pub unless_error : List Boolean → Bool → Boolean
unless_error ps t = cond (list_any is_error ps) (Error Undef) (Proper t)

-- And is true exactly where every part is true.
abbrev pub AndAll : Type 0
AndAll = (ps : List Boolean) → meaning all_of ps ≡ unless_error ps (list_all is_true ps)

-- Or is true exactly where some part is true.
abbrev pub OrSome : Type 0
OrSome = (ps : List Boolean) → meaning some_of ps ≡ unless_error ps (list_any is_true ps)

-- No tally is miss_elt.
abbrev pub Tally : Boolean → Type 0
Tally (Proper a) = Unit {0}
Tally (Error f) = f ≡ Undef

-- No tally of parts is miss_elt.
abbrev pub NoMissedTally : Definition Boolean Boolean Boolean → Type 0
NoMissedTally d = (n : ℕ) (t : Boolean) → Sized d n t → Tally t
