use Rattle.meaning.proofs.Indices.{indices_go_up}
use Rattle.meaning.proofs.laws.indices_stand.Goals as goal

pub returns : goal.returns
returns c = indices_go_up
