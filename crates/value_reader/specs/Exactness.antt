-- What it means that a value stands in bytes, and that a reader accepts exactly that.
use Rattle.std.specs.Prelude.{◌≡◌, ℕ, ◌+◌, ◌≤◌, List, length, take, drop, Some, Ok}
use Rattle.values.specs.declared.row.Row.{Row}
use Rattle.values.specs.Values.{Value, size, encode}
use Rattle.values.specs.Trees.{Tree, Of}
use Rattle.values.specs.Rows.{tree_of}
use Rattle.value_reader.specs.Reading.{Verdict}

-- The bytes of the value v stand in bs, from an offset to an end.
pub record Stands (bs : List ℕ) (at end : ℕ) (v : Value) : Type 0 where
  pub within : end ≤ length bs
  pub ends : at + size v ≡ end
  pub bytes : take (size v) (drop at bs) ≡ encode v

-- A value of a type stands there.
abbrev pub Holds : Tree → List ℕ → ℕ → ℕ → Type 0
Holds t bs at end = (v : Value) × Of t v × Stands bs at end v

-- A value of the type that has a number in a table stands there.
abbrev pub HoldsNumber : List Row → ℕ → List ℕ → ℕ → ℕ → Type 0
HoldsNumber rows n bs at end = (t : Tree) × (tree_of rows n ≡ Some t) × Holds t bs at end

-- The verdict is acceptance with an end exactly if P holds of that end.
abbrev pub Exact : Verdict → (ℕ → Type 0) → Type 0
Exact r P = (end : ℕ) → (r ≡ Ok end → P end) × (P end → r ≡ Ok end)
