use Rattle.meaning.proofs.Runs.{few_are_merged}
use Rattle.meaning.proofs.laws.parts_stand.Goals as goal

pub returns : goal.returns
returns c = few_are_merged
