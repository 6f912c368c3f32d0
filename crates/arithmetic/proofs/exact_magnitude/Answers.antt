use Rattle.std.proofs.Common.{pos, nat_abs, ap, ◌∙◌, w64, SFits, rules}
use Rattle.std.proofs.lemmas.Int.{to_z-of_z}
use Rattle.numbers.specs.Integers.{judged}
use Rattle.arithmetic.proofs.exact_magnitude.Goals as goal

pub returns : goal.returns
returns c =
    let fits_wide : SFits w64 c.from.result = search rules in
    let fits_abs : SFits w64 c.abs.result = search rules in
    let value = simp to_z-of_z at c.abs.ensures.value in
    simp to_z-of_z at c.judge.ensures ∙ ap judged (value ∙ ap (λ z. pos (nat_abs z)) c.from.ensures)
