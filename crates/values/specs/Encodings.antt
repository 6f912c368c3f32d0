-- What holds of the bytes of values.
use Rattle.std.specs.Prelude.{◌≡◌, ℕ, ◌≤◌, List, ◌++◌, length}
use Rattle.values.specs.Values.{Value, size, sizes, encode}
use Rattle.values.specs.Trees.{Tree, Of}

-- Bytes that begin with a value of a type begin with no other: where two such texts are the same, so are the values
-- and what follows them.
abbrev pub PrefixCode : Type 0
PrefixCode = (t u : Tree) (v w : Value) (r s : List ℕ) → Of t v → Of u w → encode v ++ r ≡ encode w ++ s → (v ≡ w) × (r ≡ s)

-- A value is written in as many bytes as its size says.
abbrev pub SizeIsLength : Type 0
SizeIsLength = (v : Value) → length (encode v) ≡ size v

-- A value takes two bytes at least.
abbrev pub TwoAtLeast : Type 0
TwoAtLeast = (v : Value) → 2 ≤ size v

-- Values that stand within 65536 bytes are 32768 at most.
abbrev pub FewValues : Type 0
FewValues = (vs : List Value) → sizes vs ≤ 65536 → length vs ≤ 32768

pub record Encodings : Type 0 where
  pub prefix : PrefixCode
  pub long : SizeIsLength
  pub two : TwoAtLeast
  pub few : FewValues
