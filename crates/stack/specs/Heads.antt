-- The bytes of a composed value before its parts.
use Rattle.std.specs.Prelude.{◌≡◌, ℕ, List, [], ◌∷◌, ◌++◌, length}
use Rattle.numbers.specs.declared.number.Number.{Number}
use Rattle.stack.specs.declared.heads.Head.{Head}
use Rattle.stack.specs.declared.heads.Head.TheVariants.{Array, Record, Union}
use Rattle.values.specs.Values.{Value, Values, members, array, record_of, union, word, two_bytes, encode, encode_row}

-- An array's head: its kind, its low index and the number of its elements.
abbrev pub array_head : Number → ℕ → List ℕ
array_head low count = 0x53 ∷ (word low.value ++ two_bytes count)

-- A record's head: its kind and the number of its members.
abbrev pub record_head : ℕ → List ℕ
record_head count = 0x54 ∷ count ∷ []

-- A union's head: its kind and its tag.
abbrev pub union_head : ℕ → List ℕ
union_head tag = 0x55 ∷ tag ∷ []

-- The bytes of every array with this low index and so many elements are the head and then the elements.
abbrev pub HeadsArray : Number → ℕ → Type 0
HeadsArray low count = (vs : Values) → length (members vs) ≡ count → encode (array low vs) ≡ array_head low count ++ encode_row vs

-- The bytes of every record with so many members are the head and then the members.
abbrev pub HeadsRecord : ℕ → Type 0
HeadsRecord count = (vs : Values) → length (members vs) ≡ count → encode (record_of vs) ≡ record_head count ++ encode_row vs

-- The bytes of every union with this tag are the head and then the constituent.
abbrev pub HeadsUnion : ℕ → Type 0
HeadsUnion tag = (v : Value) → encode (union tag v) ≡ union_head tag ++ encode v

-- The bytes of a head.
abbrev pub head_bytes : Head → List ℕ
head_bytes (Array low count) = array_head low count
head_bytes (Record count) = record_head count
head_bytes (Union tag) = union_head tag

-- The bytes of every value with this head are the head and then the parts.
abbrev pub HeadsValues : Head → Type 0
HeadsValues (Array low count) = HeadsArray low count
HeadsValues (Record count) = HeadsRecord count
HeadsValues (Union tag) = HeadsUnion tag
