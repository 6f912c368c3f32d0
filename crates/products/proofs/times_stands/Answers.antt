use Rattle.products.specs.TimesLaws.{tallies_of_times}
use Rattle.products.proofs.Listing.{times_multiplies}
use Rattle.products.proofs.times_stands.Goals as goal

pub returns : goal.returns
returns c = record { means = times_multiplies; tallies = tallies_of_times }
