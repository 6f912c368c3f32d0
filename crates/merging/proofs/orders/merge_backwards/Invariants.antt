use Rattle.std.proofs.Common.{◌≡◌, List, ◌++◌}
use Rattle.merging.specs.Operators.{tallied}
use Rattle.merging.proofs.orders.merge_backwards.Given as goal

-- The parts are those that are left, and after them those that are joined.
abbrev pub invariant-loop-part : goal.invariant-loop-part
invariant-loop-part g l = record {
  later : List g.row.O-Part.Denot;
  split : l.parts ≡ l.part-iterator.iter.rest.now ++ later;
  joined : l.sum ≡ tallied g.O.Operator.is later;
}
