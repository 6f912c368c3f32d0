use Rattle.std.proofs.Common.{◌≡◌, take}
use Rattle.merging.specs.Operators.{tallied}
use Rattle.merging.proofs.orders.merge.Given as goal

abbrev pub invariant-loop-part : goal.invariant-loop-part
invariant-loop-part g l = l.sum ≡ tallied g.O.Operator.is (take l.part-index l.parts)
