use Rattle.meaning.proofs.Kept.{types_are_kept}
use Rattle.meaning.proofs.laws.types_stand.Goals as goal

pub returns : goal.returns
returns c = types_are_kept
