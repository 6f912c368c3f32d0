use Rattle.std.proofs.Common.{◌∙◌}
use Rattle.outside_plus.proofs.SameAsPlus.{merged_same}
use Rattle.outside_plus.proofs.merge_apart.Goals as goal

pub returns : goal.returns
returns c = c.merge.ensures.means ∙ merged_same c.args.parts.now
