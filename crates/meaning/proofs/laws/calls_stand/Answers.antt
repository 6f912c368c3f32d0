use Rattle.meaning.proofs.Linking.{calls_run_bodies}
use Rattle.meaning.proofs.laws.calls_stand.Goals as goal

pub returns : goal.returns
returns c = calls_run_bodies
