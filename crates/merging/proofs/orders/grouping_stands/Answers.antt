use Rattle.merging.proofs.Grouping.{every_grouping}
use Rattle.merging.proofs.orders.grouping_stands.Goals as goal

pub returns : goal.returns
returns g c = every_grouping g.met.O.Operator.lawful
