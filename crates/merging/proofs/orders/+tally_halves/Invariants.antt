use Rattle.std.proofs.Common.{length}
use Rattle.merging.proofs.orders.+tally_halves.Given as goal

abbrev pub decreases-tally_halves : goal.decreases-tally_halves
decreases-tally_halves g l = length l.parts.now
