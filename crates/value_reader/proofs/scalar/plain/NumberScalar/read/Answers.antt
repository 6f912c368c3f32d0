use Rattle.std.proofs.Common.{◌∙◌, w32, SFits, rules}
use Rattle.std.proofs.lemmas.Int.{to_z-of_z}
use Rattle.value_reader.proofs.Finding.{number_unbegun, finds_number}
use Rattle.value_reader.proofs.scalar.plain.NumberScalar.read.Goals as goal

pub returns-in_err-body : goal.returns-in_err-body
returns-in_err-body c = rw c.from_residual.ensures (number_unbegun c.args.bytes.now c.args.at (c.in_err-body.ensures))

pub returns : goal.returns
returns c =
    let fits : SFits w32 c.from_be_bytes.result = search rules in
    let body = c.in_ok-body.ensures in
    finds_number c.args.bytes.now c.args.at c.type_inv.bytes body.0 c.in_ok-body.field-0.now body.1 c.new.result _ (to_z-of_z w32 c.from_be_bytes.result fits ∙ c.from_be_bytes.ensures) c.new.ensures
