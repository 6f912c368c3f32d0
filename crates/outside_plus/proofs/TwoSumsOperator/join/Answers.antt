use Rattle.std.proofs.Common.{w64, SFits, rules}
use Rattle.std.proofs.lemmas.Int.{to_z-of_z}
use Rattle.sums.proofs.Exact.{not_cut}
use Rattle.outside_plus.specs.SidesLaws.{below_fits, above_fits}
use Rattle.outside_plus.proofs.TwoSumsOperator.join.Goals as goal

pub returns : goal.returns
returns c m n s t h =
    let a = c.args.a in
    let b = c.args.b in
    let fa : SFits w64 c.args.a.below = search rules in
    let fb : SFits w64 c.args.b.below = search rules in
    let ga : SFits w64 c.args.a.above = search rules in
    let gb : SFits w64 c.args.b.above = search rules in
    let exact_below = not_cut _ _ (below_fits m n a b s t h) (simp to_z-of_z at c.saturating_add.ensures) in
    let exact_above = not_cut _ _ (above_fits m n a b s t h) (simp to_z-of_z at c.saturating_add-2.ensures) in
    search rules
