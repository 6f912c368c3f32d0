use Rattle.meaning.proofs.Runs.{steps_are_counted, expressions_step}
use Rattle.meaning.proofs.laws.steps_stand.Goals as goal

pub returns : goal.returns
returns c = record { runs = steps_are_counted; expressions = expressions_step }
