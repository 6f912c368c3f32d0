-- Kinds by their bytes.
use Rattle.std.specs.Prelude.{◌≡◌, ℕ, List, Some, None, Result, MatchResult}
use Rattle.verdict.specs.declared.kinds.UnknownKind.{UnknownKind}
use Rattle.verdict.specs.Outcomes.{lookup}

-- What a table has under a byte, or word that it has nothing.
abbrev pub Decodes : {A : Type 0} → List (ℕ × A) → ℕ → Result A UnknownKind → Type 0
Decodes table byte r = MatchResult r (λ a. lookup table byte ≡ Some a) (λ e. (lookup table byte ≡ None) × (e.0 ≡ byte))
