use Rattle.choices.specs.Gathering.{or_some, tallies_of_or}
use Rattle.choices.proofs.truths.or_stands.Goals as goal

pub returns : goal.returns
returns c = record { means = or_some; tallies = tallies_of_or }
