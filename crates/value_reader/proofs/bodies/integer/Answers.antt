use Rattle.std.proofs.Common.{◌≡◌, ◌+◌, true, arith, w32, SFits, rules}
use Rattle.value_reader.specs.Reading.{proper_at}
use Rattle.value_reader.proofs.Drops.{proper_there}
use Rattle.value_reader.proofs.bodies.integer.Goals as goal

pub returns-else-from_be_bytes : goal.returns-else-from_be_bytes
returns-else-from_be_bytes c =
    let fits : SFits w32 c.from_be_bytes.result = search rules in
    let proper : proper_at c.args.bytes.now (c.args.at + 1) ≡ true =
    proper_there c.args.bytes.now (c.args.at + 1) c.type_inv.bytes (omega (arith, c.in_ok-end.ensures.whole (search rules))) _ c.bytes_at.ensures _ c.from_be_bytes.ensures fits c.if-from_be_bytes.false in
    search rules
