use Rattle.std.proofs.Common.{◌≡◌, ℕ, List, Ok, Err, Result, vec_items, inr, sym, subst, ◌∙◌}
use Rattle.std.specs.Prelude.{IsErr, IsErrAnd}
use Rattle.values.specs.declared.members.Members.{Members}
use Rattle.values.specs.declared.refusal.Refusal.{Refusal}
use Rattle.verdict.specs.Outcomes.{Out}
use Rattle.module_check.specs.Reading.{Declines, Judged}
use Rattle.values.specs.Rows.{used}
use Rattle.module_check.proofs.Facts.{found_seen}
use Rattle.module_check.proofs.Tests.{pointwise_same}
use Rattle.module_check.proofs.parent.Parent.call.Goals as goal

judged_from : (o : ℕ → Out (List ℕ)) (r : Result Members Refusal) (e : Refusal) → IsErr r × IsErrAnd r (λ x. x ≡ e) → ((next : ℕ) → Declines (o next) e) → Judged o r
judged_from o (Ok m) e h k = absurd h.1
judged_from o (Err x) e h k = subst (λ z. (next : ℕ) → Declines (o next) z) (sym h.1) k

pub returns : goal.returns
returns c next =
    let found = rw c.in_ok-callee.ensures.ok_part at c.get.ensures.lookup in
    let seen = found_seen (vec_items c.args.self.now.scene.tables.now.functions) c.deref.result.now c.args.function c.in_ok-callee.callee.now c.deref.ensures.value found.0 found.1 in
    rw (seen, sym (c.eq.ensures ∙ pointwise_same (used c.in_ok-callee.callee.now.parameters) (used c.args.part)) ∙ c.in_ok-clash_unless.ensures)

pub returns-in_err-clash_unless : goal.returns-in_err-clash_unless
returns-in_err-clash_unless c =
    let found = rw c.in_ok-callee.ensures.ok_part at c.get.ensures.lookup in
    let seen = found_seen (vec_items c.args.self.now.scene.tables.now.functions) c.deref.result.now c.args.function c.in_ok-callee.callee.now c.deref.ensures.value found.0 found.1 in
    let k = c.in_err-clash_unless.ensures in
    judged_from _ _ _ c.from_residual-in_err-clash_unless.ensures
    (λ next. rw k.1 (inr (rw (seen, sym (c.eq.ensures ∙ pointwise_same (used c.in_ok-callee.callee.now.parameters) (used c.args.part)) ∙ k.0))))
