use Rattle.meaning.proofs.Runs.{loops_are_unbounded}
use Rattle.meaning.proofs.laws.loops_stand.Goals as goal

pub returns : goal.returns
returns c = loops_are_unbounded
