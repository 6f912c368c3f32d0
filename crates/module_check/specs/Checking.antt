-- What the check answers.
use Rattle.std.specs.Prelude.{◌≡◌, ℕ, ◌⊎◌, List, length, Ok, Err, vec_items, Result}
use Rattle.values.specs.declared.refusal.Refusal.{Refusal}
use Rattle.values.specs.declared.refusal.Refusal.TheVariants.{Memory}
use Rattle.values.specs.Tables.{rows_of}
use Rattle.language.specs.declared.program.Program.{Program}
use Rattle.language.specs.Syntax.{Module}
use Rattle.language.specs.Tables.{TablesOf}
use Rattle.verdict.specs.Outcomes.{accepted, refused}
use Rattle.verdict.specs.Modules.{verdict}
use Rattle.verdict.specs.Exactness.{Encodes}

-- The holder has the tables of the module.
abbrev pub Holds : Program → Module → Type 0
Holds p m = TablesOf m (rows_of p.types) (vec_items p.functions) (vec_items p.nodes)

-- The answer is the verdict's, or want of memory: a module that passes fills the holder, and a refusal leaves it.
abbrev pub Checked : List ℕ → Program → Program → Result Unit Refusal → Type 0
Checked bs before behind (Ok _) = (m : Module) × (verdict bs ≡ accepted m (length bs)) × Holds behind m
Checked bs before behind (Err e) = (behind ≡ before) × ((e ≡ Memory) ⊎ (verdict bs ≡ refused e))

-- What passes is exactly what encodes a well-typed module in at most 16384 bytes: the holder has that module, and where
-- the answer is a refusal, but for memory, there is none.
abbrev pub Means : List ℕ → Program → Result Unit Refusal → Type 0
Means bs behind (Ok _) = (m : Module) × Encodes bs m × Holds behind m
Means bs behind (Err e) = (e ≡ Memory) ⊎ ((m : Module) → Encodes bs m → ⊥)
