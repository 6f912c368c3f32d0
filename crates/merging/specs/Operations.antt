-- Operators that combine values of one type by one operation.
use Rattle.std.specs.Prelude.{◌≡◌}
use Rattle.merging.specs.Operators.{Definition}

-- A merge starts at the neutral value, a part's tally is the operation on that and the part, and what a merge ends with is its answer.
abbrev pub combining : {Value : Type 0} → Value → (Value → Value → Value) → Definition Value Value Value
combining neutral combine = record { start = neutral; tally = combine neutral; join = combine; close = λ t. t }

-- The operation is associative and commutative, and the neutral value does not change itself. It may change other values, but
-- no tally, since each tally has it in it.
pub record OperationLaws {Value : Type 0} (neutral : Value) (combine : Value → Value → Value) : Type 0 where
  pub assoc : (a b c : Value) → combine (combine a b) c ≡ combine a (combine b c)
  pub comm : (a b : Value) → combine a b ≡ combine b a
  pub neutral_kept : combine neutral neutral ≡ neutral
