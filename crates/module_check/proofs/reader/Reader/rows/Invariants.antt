use Rattle.std.proofs.Common.{◌≡◌}
use Rattle.values.specs.Tables.{rows_of}
use Rattle.module_check.proofs.ModuleFacts.{Rowing}
use Rattle.module_check.proofs.reader.Reader.rows.Given as goal

abbrev pub invariant-loop : goal.invariant-loop
invariant-loop l =
    (l.self.nodes ≡ l.initial.self.nodes) × (l.tables.functions ≡ l.initial.tables.functions)
    × Rowing l.count l.bytes (rows_of l.initial.tables.types) l.initial.self.at l.counter (rows_of l.tables.types) l.self.at
