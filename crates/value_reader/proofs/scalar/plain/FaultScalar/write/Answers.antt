use Rattle.value_reader.proofs.Finding.{fault_made}
use Rattle.value_reader.proofs.scalar.plain.FaultScalar.write.Goals as goal

pub returns : goal.returns
returns c = rw (fault_made c.args.self) (rw (c.into.ensures, c.into-2.ensures) at c.lay_bytes.ensures)
