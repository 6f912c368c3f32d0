use Rattle.meaning.proofs.Runs.{budget_only_stops}
use Rattle.meaning.proofs.laws.budget_stands.Goals as goal

pub returns : goal.returns
returns c = budget_only_stops
