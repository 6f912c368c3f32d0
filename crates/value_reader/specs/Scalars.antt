-- Integers and booleans in bytes.
use Rattle.std.specs.Prelude.{◌≡◌, ℕ, ◌+◌, ◌<◌, ◌≤◌, Bool, ◌&&◌, List, ◌++◌, length, take, drop, Some, None, Option, ◌==◌, nat_le, nat_lt}
use Rattle.value_reader.specs.Bytes.{byte}
use Rattle.numbers.specs.declared.fault.BasicFault.{BasicFault}
use Rattle.numbers.specs.Faults.{basic_of}
use Rattle.values.specs.Values.{Value, error, size}
use Rattle.value_reader.specs.Exactness.{Stands}

-- Whether a record of a kind begins at an offset, with a whole body.
abbrev pub begins : ℕ → ℕ → List ℕ → ℕ → Bool
begins kind size bs at = nat_lt at (length bs) && (nat_le (at + size) (length bs) && byte bs at == kind)

-- The answer is x exactly if x, as a value, stands at the offset.
abbrev pub Finds : {A : Type 0} → (A → Value) → List ℕ → ℕ → Option A → Type 0
Finds {A} value bs at r =
    (x : A) → (r ≡ Some x → Stands bs at (at + size (value x)) (value x)) × (Stands bs at (at + size (value x)) (value x) → r ≡ Some x)

-- An error that every type has, as a value.
abbrev pub basic_error : BasicFault → Value
basic_error f = error (basic_of f)

-- The bytes xs are laid at an offset, over what stood there, and the end is answered; where they do not fit, nothing
-- changes.
abbrev pub Laid : List ℕ → List ℕ → ℕ → List ℕ → Option ℕ → Type 0
Laid before after at xs (Some end) =
    (at + length xs ≤ length before) × (end ≡ at + length xs) × (after ≡ take at before ++ (xs ++ drop (at + length xs) before))
Laid before after at xs None = (length before < at + length xs) × (after ≡ before)
