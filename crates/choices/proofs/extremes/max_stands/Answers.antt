use Rattle.choices.specs.Highest.{max_greatest, tallies_of_max}
use Rattle.choices.proofs.extremes.max_stands.Goals as goal

pub returns : goal.returns
returns c = record { means = max_greatest; tallies = tallies_of_max }
