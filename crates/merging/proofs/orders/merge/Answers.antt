use Rattle.std.proofs.Common.{Ok, sym, ap, ◌∙◌, take_all}
use Rattle.merging.specs.Operators.{tallied}
use Rattle.merging.proofs.Grouping.{every_grouping}
use Rattle.merging.proofs.Steps.{closed, joined_next, merged_few}
use Rattle.merging.proofs.orders.merge.Goals as goal

pub loop-part-preserved : goal.loop-part-preserved
loop-part-preserved g c =
    joined_next g.O.Operator.is c.args.parts.now c.loop-part.part-index c.part-item.result
    c.join-sum.ensures c.loop-part.invariant c.tally.ensures c.part-item.is c.loop-part-test.true c.in_ok-refuse_many.ensures.few

pub returns : goal.returns
returns g c =
    let d = g.O.Operator.is in
    let ps = c.args.parts.now in
    let all = c.loop-part.invariant ∙ ap (tallied d) (take_all c.loop-part.part-index ps c.loop-part-test.false) in
    let means = closed d ps c.close.ensures all c.in_ok-refuse_many.ensures.few in
    record {
      means = means;
      grouped = λ t r h. means ∙ merged_few d ps h ∙ ap Ok (sym (every_grouping g.met.O.Operator.lawful t ps r h));
    }
