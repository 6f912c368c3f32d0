use Rattle.std.proofs.Common.{◌∙◌, w32, SFits, rules}
use Rattle.std.proofs.lemmas.Int.{to_z-of_z}
use Rattle.value_reader.proofs.Finding.{number_made}
use Rattle.value_reader.proofs.scalar.plain.NumberScalar.write.Goals as goal

pub returns : goal.returns
returns c =
    let fits : SFits w32 c.get.result = search rules in
    let value = to_z-of_z w32 c.get.result fits ∙ c.get.ensures in
    rw (number_made c.args.self) (simp (c.into.ensures, c.to_be_bytes.ensures, value) at c.lay_bytes.ensures)
