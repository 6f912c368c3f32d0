use Rattle.std.proofs.Common.{sym, refl, ◌∙◌}
use Rattle.value_reader.proofs.Finding.{fault_unbegun, fault_found, alone, parses_fault}
use Rattle.value_reader.proofs.scalar.plain.FaultScalar.read.Goals as goal

pub returns-in_err-body : goal.returns-in_err-body
returns-in_err-body c = rw c.from_residual.ensures (fault_unbegun c.args.bytes.now c.args.at c.in_err-body.ensures)

pub returns : goal.returns
returns c =
    let body = c.in_ok-body.ensures in
    let one = sym body.1 ∙ alone _ _ c.in-len1.len_at_least c.in-len1.len_below refl in
    rw c.ok.ensures.value (fault_found c.args.bytes.now c.args.at body.0 _ (parses_fault _ _ c.try_from.result one c.try_from.ensures))
