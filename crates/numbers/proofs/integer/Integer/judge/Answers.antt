use Rattle.std.proofs.Common.{sym, ◌∙◌, arith}
use borrow.Author.Differences.{ints}
use Rattle.numbers.proofs.Judging.{judged_above, judged_below, judged_proper}
use Rattle.numbers.proofs.integer.Integer.judge.Goals as goal

pub returns-then-value-gt2147483647 : goal.returns-then-value-gt2147483647
returns-then-value-gt2147483647 c = sym (judged_above c.args.value (omega (arith, ints)))

pub returns-then-value-ltminus2147483647 : goal.returns-then-value-ltminus2147483647
returns-then-value-ltminus2147483647 c = sym (judged_below c.args.value (omega (arith, ints)))

pub returns : goal.returns
returns c =
    let kept = rw c.unwrap.ensures at c.new.ensures in
    sym (judged_proper c.args.value c.unwrap.result (kept ∙ omega (arith, ints)))
