use Rattle.std.proofs.Common.{inl}
use Rattle.language.proofs.program.Program.new.Goals as goal

-- A new holder has nothing.
pub invariant_of-result : goal.invariant_of-result
invariant_of-result c =
    record { lawful = ∣ inl (record { no_rows = c.new.ensures; no_functions = c.new-2.ensures.items; no_nodes = c.new-3.ensures.items }) ∣₁ }
