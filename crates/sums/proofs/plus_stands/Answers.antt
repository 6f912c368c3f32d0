use Rattle.sums.specs.PlusLaws.{plus_sums}
use Rattle.sums.proofs.plus_stands.Goals as goal

pub returns : goal.returns
returns c = plus_sums
