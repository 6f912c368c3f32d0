use Rattle.value_reader.proofs.Finding.{number_only}
use Rattle.value_reader.proofs.scalar.mixed.IntegerScalar.read.Goals as goal

pub returns-in-Some : goal.returns-in-Some
returns-in-Some c = number_only c.args.bytes.now c.args.at c.in-Some.number c.in-Some.ensures
