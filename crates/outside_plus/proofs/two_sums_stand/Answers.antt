use Rattle.outside_plus.proofs.SameAsPlus.{same_as_plus}
use Rattle.outside_plus.proofs.two_sums_stand.Goals as goal

pub returns : goal.returns
returns c = same_as_plus
