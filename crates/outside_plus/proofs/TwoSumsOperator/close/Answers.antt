use Rattle.std.proofs.Common.{w64, SFits, rules}
use Rattle.std.proofs.lemmas.Int.{to_z-of_z}
use Rattle.sums.proofs.Exact.{not_cut}
use Rattle.outside_plus.specs.SidesLaws.{both_fit}
use Rattle.outside_plus.proofs.TwoSumsOperator.close.Goals as goal

pub returns : goal.returns
returns c n s h =
    let t = c.args.tally in
    let fa : SFits w64 c.args.tally.above = search rules in
    let fb : SFits w64 c.args.tally.below = search rules in
    let exact = not_cut _ _ (both_fit n t s h) (simp to_z-of_z at c.saturating_add-sum.ensures) in
    search rules
