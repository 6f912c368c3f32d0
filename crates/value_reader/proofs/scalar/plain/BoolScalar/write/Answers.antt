use Rattle.std.proofs.Common.{subst}
use Rattle.value_reader.specs.Scalars.{Laid}
use Rattle.value_reader.proofs.Finding.{truth_bytes}
use Rattle.value_reader.proofs.scalar.plain.BoolScalar.write.Goals as goal

pub returns : goal.returns
returns c = subst (λ xs. Laid c.args.bytes.now c.lay_bytes.new.store c.args.at xs c.lay_bytes.result) (truth_bytes c.args.self) (rw c.into.ensures at c.lay_bytes.ensures)
