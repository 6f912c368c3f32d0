use Rattle.std.proofs.Common.{◌+◌, ◌*◌}
use Rattle.value_text.proofs.show.Printer.+shown_values.Given as goal

abbrev pub decreases-value : goal.decreases-value
decreases-value g l = 2 * l.depth

abbrev pub decreases-array : goal.decreases-array
decreases-array g l = 2 * l.depth + 1

abbrev pub decreases-record : goal.decreases-record
decreases-record g l = 2 * l.depth + 1

abbrev pub decreases-union : goal.decreases-union
decreases-union g l = 2 * l.depth + 1
