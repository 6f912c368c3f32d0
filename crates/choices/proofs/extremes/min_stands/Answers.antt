use Rattle.choices.specs.Lowest.{min_least, tallies_of_min}
use Rattle.choices.proofs.extremes.min_stands.Goals as goal

pub returns : goal.returns
returns c = record { means = min_least; tallies = tallies_of_min }
