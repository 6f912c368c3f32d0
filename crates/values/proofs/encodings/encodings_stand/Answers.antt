use Rattle.values.proofs.Prefixes.{encodings}
use Rattle.values.proofs.encodings.encodings_stand.Goals as goal

pub returns : goal.returns
returns c = encodings
