use Rattle.std.proofs.Common.{[], ◌∷◌, ◌++◌, sym, ap, ◌∙◌}
use Rattle.std.proofs.lemmas.List.{append_assoc, nil_from_length}
use Rattle.merging.specs.Operators.{tallied}
use Rattle.merging.proofs.Steps.{closed, joined_before}
use Rattle.merging.proofs.orders.merge_backwards.Goals as goal

pub loop-part-preserved : goal.loop-part-preserved
loop-part-preserved g c =
    let known = c.loop-part.invariant in
    let x = c.in-Some.part.now in
    let others = c.next.new.self.iter.rest.now in
    let all = known.split ∙ ap (λ ps. ps ++ known.later) c.in-Some.ensures.steps ∙ append_assoc others (x ∷ []) known.later in
    record {
      later = x ∷ known.later;
      split = all;
      joined = joined_before g.met.O.Operator.lawful others known.later _ x c.join-sum.ensures c.tally.ensures known.joined all c.in_ok-refuse_many.ensures.few;
    }

pub returns : goal.returns
returns g c =
    let known = c.loop-part.invariant in
    let all = known.split ∙ ap (λ ps. ps ++ known.later) (nil_from_length _ c.in-None.ensures.steps.0) in
    record { means = closed g.O.Operator.is c.args.parts.now c.close.ensures (known.joined ∙ ap (tallied g.O.Operator.is) (sym all)) c.in_ok-refuse_many.ensures.few }
