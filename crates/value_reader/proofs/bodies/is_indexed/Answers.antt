use Rattle.std.proofs.Common.{◌∙◌, arith, w32, SFits, rules}
use Rattle.value_reader.proofs.Drops.{proper_indexed, least_indexed}
use Rattle.value_reader.proofs.bodies.is_indexed.Goals as goal

pub returns-then-low : goal.returns-then-low
returns-then-low c =
    let fits : SFits w32 c.from_be_bytes-low.result = search rules in
    c.is_ranged.ensures
    ∙ proper_indexed c.args.bytes.now c.args.at c.type_inv.bytes (omega (arith, c.requires)) _ c.bytes_at.ensures _ c.from_be_bytes-low.ensures fits
    c.requires _ c.bytes_at-2.ensures _ c.from_be_bytes-count.ensures c.if-low.true

pub returns-else-low : goal.returns-else-low
returns-else-low c =
    let fits : SFits w32 c.from_be_bytes-low.result = search rules in
    rw c.if-low.false
    (least_indexed c.args.bytes.now c.args.at c.type_inv.bytes (omega (arith, c.requires)) _ c.bytes_at.ensures _ c.from_be_bytes-low.ensures fits
    c.requires _ c.bytes_at-2.ensures _ c.from_be_bytes-count.ensures c.if-low.false)
