use Rattle.std.proofs.Common.{◌≡◌, vec_items}
use Rattle.values.specs.Tables.{rows_of}
use Rattle.module_check.proofs.ModuleFacts.{Defining}
use Rattle.module_check.proofs.reader.Reader.functions.Given as goal

abbrev pub invariant-loop : goal.invariant-loop
invariant-loop l =
    (l.tables.types ≡ l.initial.tables.types)
    × Defining l.count (rows_of l.initial.tables.types) l.bytes l.initial.self.at l.counter (vec_items l.tables.functions) (vec_items l.self.nodes) l.self.at
