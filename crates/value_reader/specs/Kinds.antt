-- The kinds of records, and the bytes with which records begin.
use Rattle.std.specs.Prelude.{◌≡◌, ℕ, ◌<◌, ◌⊎◌, Bool, true, false, Result, MatchResult}
use Rattle.numbers.specs.declared.fault.Fault.{Fault}
use Rattle.values.specs.Trees.{Basic}
use Rattle.value_reader.specs.declared.kind.Kind.{Kind}
use Rattle.value_reader.specs.declared.kind.Kind.TheVariants.{Boolean, Integer, Error, Array, Record, Union}
use Rattle.value_reader.specs.declared.kind.UnknownKind.{UnknownKind}

-- The byte with which a record of a kind begins.
abbrev pub code_of : Kind → ℕ
code_of Boolean = 0x50
code_of Integer = 0x51
code_of Error = 0x52
code_of Array = 0x53
code_of Record = 0x54
code_of Union = 0x55

-- How many bytes a record of a kind takes before the values that stand in it: the kind byte and a body.
abbrev pub head_size : Kind → ℕ
head_size Boolean = 2
head_size Integer = 5
head_size Error = 2
head_size Array = 7
head_size Record = 2
head_size Union = 2

-- Whether the errors of arithmetic are among the errors of a type of a kind.
abbrev pub is_arithmetic : Kind → Bool
is_arithmetic Boolean = false
is_arithmetic Integer = true
is_arithmetic Error = false
is_arithmetic Array = false
is_arithmetic Record = false
is_arithmetic Union = false

-- The error values of a type of a kind.
abbrev pub ErrorOf : Kind → Fault → Type 0
ErrorOf kind fault = (kind ≡ Integer) ⊎ Basic fault

-- The answer is the kind with this byte, or the byte back where no kind has it.
abbrev pub Decodes : ℕ → Result Kind UnknownKind → Type 0
Decodes code r = MatchResult r (λ kind. code_of kind ≡ code) (λ e. (e.0 ≡ code) × ((code < 0x50) ⊎ (0x55 < code)))
