use Rattle.std.proofs.Common.{◌≡◌, ◌*ℤ◌, sym, ap, ◌∙◌, subst, ap₂, w64, SFits, rules}
use Rattle.std.proofs.lemmas.Int.{to_z-of_z}
use Rattle.numbers.specs.Integers.{judged}
use Rattle.arithmetic.proofs.Exact.{product_fits}
use Rattle.arithmetic.proofs.exact_product.Goals as goal

pub returns : goal.returns
returns c =
    let fits_m : SFits w64 c.from.result = search rules in
    let fits_n : SFits w64 c.from-2.result = search rules in
    let same : c.from.result *ℤ c.from-2.result ≡ c.args.m.value *ℤ c.args.n.value = ap₂ ◌*ℤ◌ c.from.ensures c.from-2.ensures in
    let fits : SFits w64 (c.from.result *ℤ c.from-2.result) = subst (SFits w64) (sym same) (product_fits c.args.m c.args.n) in
    simp to_z-of_z at c.judge.ensures ∙ ap judged same
