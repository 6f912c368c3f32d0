-- What is accepted, said without reading: a module of at most 16384 bytes that encode it, within the rules.
use Rattle.std.specs.Prelude.{◌≡◌, ℕ, ◌<◌, ◌≤◌, List, length, slice_index}
use Rattle.language.specs.Syntax.{Module}
use Rattle.language.specs.Encoding.{encode_module}
use Rattle.language.specs.Typing.{WellTyped}
use Rattle.verdict.specs.Outcomes.{accepted}
use Rattle.verdict.specs.Modules.{verdict}

-- Each number is a byte.
abbrev pub Bytes : List ℕ → Type 0
Bytes bs = (i : ℕ) → slice_index bs i < 256

-- The bytes are those of the module, few enough, and the module is well typed.
pub record Encodes (bs : List ℕ) (m : Module) : Type 0 where
  pub fits : length bs ≤ 16384
  pub bytes_are : bs ≡ encode_module m
  pub well : WellTyped m

-- The verdict accepts bytes with a module exactly if they encode it; reading then comes to the end of the bytes.
abbrev pub AcceptsExactly : Type 0
AcceptsExactly =
    (bs : List ℕ) → Bytes bs → (m : Module)
    → (((q : ℕ) × (verdict bs ≡ accepted m q)) → Encodes bs m) × (Encodes bs m → verdict bs ≡ accepted m (length bs))
