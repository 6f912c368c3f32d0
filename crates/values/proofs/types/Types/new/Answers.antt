use Rattle.std.proofs.Common.{ap, ◌∙◌}
use Rattle.values.specs.Rows.{sound}
use Rattle.values.proofs.Soundness.{sound_none}
use Rattle.values.proofs.types.Types.new.Goals as goal

pub invariant_of-result : goal.invariant_of-result
invariant_of-result c = record { lawful = ap sound c.new-rows.ensures.items ∙ sound_none }
