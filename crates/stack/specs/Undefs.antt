-- Undefs that stand one behind the other.
use Rattle.std.specs.Prelude.{ℕ, List, replicate}
use Rattle.numbers.specs.declared.fault.Fault.TheVariants.{Undef}
use Rattle.values.specs.Values.{Value, error}

-- So many undefs.
abbrev pub undefs : ℕ → List Value
undefs n = replicate n (error Undef)
