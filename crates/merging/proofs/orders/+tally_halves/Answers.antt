use Rattle.std.proofs.Common.{◌≡◌, length, rules}
use Rattle.merging.proofs.Steps.{joined_lists, tally_single}
use Rattle.merging.proofs.orders.+tally_halves.Goals as goal

pub returns-in-len1 : goal.returns-in-len1
returns-in-len1 g t c =
    let one : length c.args.parts.now ≡ 1 = search rules in
    tally_single g.met.O.Operator.lawful c.args.parts.now c.part-item.result c.tally.ensures c.part-item.is one

pub returns-in_default : goal.returns-in_default
returns-in_default g t c =
    joined_lists g.met.O.Operator.lawful c.split_at.result.0.now c.split_at.result.1.now c.args.parts.now
    c.join.ensures c.tally_halves.ensures c.tally_halves-in_default.ensures c.split_at.ensures.by_index.0 c.requires
