use Rattle.choices.specs.Gathering.{and_all, tallies_of_and}
use Rattle.choices.proofs.truths.and_stands.Goals as goal

pub returns : goal.returns
returns c = record { means = and_all; tallies = tallies_of_and }
