-- What a value is, how many bytes it takes, and which bytes they are.
use Rattle.std.specs.Prelude.{ℕ, ◌+◌, ◌/◌, ◌%◌, Bool, true, false, List, [], ◌∷◌, ◌++◌, length, ℤ}
use Rattle.std.specs.Int.{w32}
use Rattle.std.proofs.Common.{of_z}
use Rattle.numbers.specs.declared.number.Number.{Number}
use Rattle.numbers.specs.declared.fault.Fault.{Fault}
use Rattle.numbers.specs.declared.integer.Integer.{Integer}
use Rattle.numbers.specs.declared.integer.Integer.TheVariants as integers
use Rattle.numbers.specs.declared.boolean.Boolean.{Boolean}
use Rattle.numbers.specs.declared.boolean.Boolean.TheVariants as booleans
use Rattle.numbers.specs.Faults.{code_of, basic_of}

-- A value: a boolean, a proper number, an error value, an array with its low index and its elements, a record with its
-- members, or a union with its tag and its constituent. A row of values is a type of its own.
mutual
  pub data Value : Type 0 where
    boolean : Bool → Value
    integer : Number → Value
    error : Fault → Value
    array : Number → Values → Value
    record_of : Values → Value
    union : ℕ → Value → Value

  pub data Values : Type 0 where
    none : Values
    ◌then◌ : Value → Values → Values

infixr 50 ◌then◌
-- A row as a list, and a list as a row.
abbrev pub members : Values → List Value
members none = []
members (v then vs) = v ∷ members vs

abbrev pub row : List Value → Values
row [] = none
row (v ∷ vs) = v then row vs

-- An integer and a boolean, with their error values, as values.
abbrev pub integer_value : Integer → Value
integer_value (integers.Proper n) = integer n
integer_value (integers.Error f) = error f

abbrev pub boolean_value : Boolean → Value
boolean_value (booleans.Proper b) = boolean b
boolean_value (booleans.Error f) = error (basic_of f)

-- The number of bytes of a value: a kind byte, a body, and the parts.
unfoldable mutual
  pub size : Value → ℕ
  size (boolean b) = 2
  size (integer n) = 5
  size (error f) = 2
  size (array low vs) = 7 + row_size vs
  size (record_of vs) = 2 + row_size vs
  size (union tag v) = 2 + size v

  pub row_size : Values → ℕ
  row_size none = 0
  row_size (v then vs) = size v + row_size vs

-- The number of bytes of values that stand one behind the other.
unfoldable pub sizes : List Value → ℕ
sizes [] = 0
sizes (v ∷ vs) = size v + sizes vs

-- A number below 65536 as two bytes, and one below 2 ^ 32 as four, the high byte first.
abbrev pub two_bytes : ℕ → List ℕ
two_bytes n = n / 256 % 256 ∷ n % 256 ∷ []

abbrev pub four_bytes : ℕ → List ℕ
four_bytes n = n / 16777216 % 256 ∷ n / 65536 % 256 ∷ n / 256 % 256 ∷ n % 256 ∷ []

-- A number in two's complement, four bytes.
abbrev pub word : ℤ → List ℕ
word z = four_bytes (of_z w32 z)

abbrev pub bit : Bool → ℕ
bit true = 1
bit false = 0

-- The bytes of a value.
unfoldable mutual
  pub encode : Value → List ℕ
  encode (boolean b) = 0x50 ∷ bit b ∷ []
  encode (integer n) = 0x51 ∷ word n.value
  encode (error f) = 0x52 ∷ code_of f ∷ []
  encode (array low vs) = 0x53 ∷ word low.value ++ two_bytes (length (members vs)) ++ encode_row vs
  encode (record_of vs) = 0x54 ∷ length (members vs) ∷ encode_row vs
  encode (union tag v) = 0x55 ∷ tag ∷ encode v

  pub encode_row : Values → List ℕ
  encode_row none = []
  encode_row (v then vs) = encode v ++ encode_row vs

-- The bytes of values that stand one behind the other.
unfoldable pub encodes : List Value → List ℕ
encodes [] = []
encodes (v ∷ vs) = encode v ++ encodes vs
