use Rattle.merging.proofs.Steps.{closed}
use Rattle.merging.proofs.orders.merge_halves.Goals as goal

pub returns : goal.returns
returns g c = record { means = closed g.O.Operator.is c.args.parts.now c.close.ensures c.tally_halves.ensures c.in_ok-refuse_many.ensures.few }
