use Rattle.std.proofs.Common.{◌≡◌, ℤ, negsuc, Some, None, Option, MatchOption, sym, ap, ◌∙◌, arith, w32, SFits, rules}
use borrow.Author.Differences.{ints}
use Rattle.std.proofs.lemmas.Int.{to_z-of_z}
use Rattle.numbers.specs.declared.number.Number.{Number}
use Rattle.numbers.specs.Integers.{judged}
use Rattle.numbers.proofs.Judging.{judged_proper, judged_below}
use Rattle.verdict.specs.Bodies.{proper_in}
use Rattle.module_check.proofs.reader.heads.number_from.Goals as goal

-- A number was made of z, or z is the one below the proper numbers.
made : (z : ℤ) (r : Option Number) → MatchOption r (z ≡ negsuc 2147483647) (λ n. n.value ≡ z) → r ≡ proper_in (judged z)
made z (Some n) e = sym (ap proper_in (judged_proper z n e))
made z None e = sym (ap proper_in (judged_below z (omega (arith, ints))))

pub returns : goal.returns
returns c =
    let z = c.from_be_bytes.result in
    let f : SFits w32 z = search rules in
    made _ c.new.result c.new.ensures ∙ ap (λ (y : ℤ). proper_in (judged y)) (to_z-of_z w32 z f ∙ c.from_be_bytes.ensures)
