use Rattle.value_reader.proofs.Finding.{truth_only}
use Rattle.value_reader.proofs.scalar.mixed.BooleanScalar.read.Goals as goal

pub returns-in-Some : goal.returns-in-Some
returns-in-Some c = truth_only c.args.bytes.now c.args.at c.in-Some.truth c.in-Some.ensures
