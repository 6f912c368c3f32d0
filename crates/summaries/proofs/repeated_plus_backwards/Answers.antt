use Rattle.std.proofs.Common.{◌≡◌, fold, reverse, ◌∙◌, arith}
use Rattle.std.proofs.lemmas.Grind.{common_steps}
use Rattle.arithmetic.specs.Arithmetic.{sum}
use Rattle.summaries.specs.Orders.{zero}
use Rattle.summaries.proofs.Last.{fold-reverse}
use Rattle.summaries.proofs.repeated_plus_backwards.Goals as goal

pub returns : goal.returns
returns c =
    let added : c.rfold.result ≡ fold sum zero (reverse c.args.readings.now) = grind (arith, common_steps) in
    added ∙ fold-reverse c.args.readings.now
