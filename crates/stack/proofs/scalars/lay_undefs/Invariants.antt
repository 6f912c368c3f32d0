use Rattle.std.proofs.Common.{Some}
use Rattle.values.specs.Values.{encodes}
use Rattle.value_reader.specs.Scalars.{Laid}
use Rattle.stack.specs.Undefs.{undefs}
use Rattle.stack.proofs.scalars.lay_undefs.Given as goal

abbrev pub invariant-loop : goal.invariant-loop
invariant-loop l = Laid l.initial.store l.store l.top (encodes (undefs l.counter)) (Some l.end)
