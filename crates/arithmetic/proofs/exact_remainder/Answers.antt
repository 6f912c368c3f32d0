use Rattle.std.proofs.Common.{◌≡◌, sym, ap, ◌∙◌, subst, ap₂, w64, SFits, rules}
use lib.Signed.{rem_z}
use Rattle.std.proofs.lemmas.Int.{to_z-of_z}
use Rattle.numbers.specs.Integers.{judged}
use Rattle.arithmetic.proofs.Exact.{remainder_fits, left_over}
use Rattle.arithmetic.proofs.exact_remainder.Goals as goal

pub returns : goal.returns
returns c =
    let m = c.args.m in
    let n = c.args.n in
    let fits_m : SFits w64 c.from.result = search rules in
    let fits_n : SFits w64 c.from-2.result = search rules in
    let same : rem_z c.from.result c.from-2.result ≡ rem_z m.value n.value = ap₂ rem_z c.from.ensures c.from-2.ensures in
    let fits : SFits w64 (rem_z c.from.result c.from-2.result) = subst (SFits w64) (sym same) (remainder_fits m n) in
    simp to_z-of_z at c.judge.ensures ∙ ap judged (same ∙ sym (left_over m.value n.value))
