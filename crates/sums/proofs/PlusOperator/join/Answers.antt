use Rattle.std.proofs.Common.{w64, SFits, rules}
use Rattle.std.proofs.lemmas.Int.{to_z-of_z}
use Rattle.sums.specs.PlusLaws.{sums_fit}
use Rattle.sums.proofs.Exact.{not_cut}
use Rattle.sums.proofs.PlusOperator.join.Goals as goal

pub returns : goal.returns
returns c m n s t h =
    let a = c.args.a in
    let b = c.args.b in
    let fa : SFits w64 c.args.a.sum = search rules in
    let fb : SFits w64 c.args.b.sum = search rules in
    let exact = not_cut _ _ (sums_fit m n a b s t h) (simp to_z-of_z at c.saturating_add.ensures) in
    search rules
