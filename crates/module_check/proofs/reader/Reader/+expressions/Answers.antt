use Rattle.std.proofs.Common.{◌≡◌, ℕ, true, false, ◌+◌, ◌-◌, ◌<◌, ◌≤◌, ◌&&◌, [], ◌∷◌, ◌++◌, length, get_or, take, replicate, Ok, vec_items, sym, refl, inr, ap, ◌∙◌, subst, arith, length-set, length-take, rules}
use Rattle.std.proofs.lemmas.Result.{err_from_is_err_and}
use Rattle.std.proofs.lemmas.Bool.{lt-ltb}
use Rattle.values.specs.Rows.{used}
use Rattle.language.specs.Sorts.{same}
use Rattle.language.specs.Tables.{node}
use Rattle.verdict.specs.Bodies.{head_at}
use Rattle.verdict.specs.Outcomes.{accepted}
use Rattle.verdict.specs.Judging.{typed}
use Rattle.verdict.specs.Expressions.{parts_at, end_parts_at}
use Rattle.verdict.proofs.Members.{members_few}
use Rattle.module_check.specs.Views.{context_in, counts_in, names_in, expr_in, end_in}
use Rattle.module_check.specs.Reading.{Declines, PartsRead, EndRead, EndPartsRead}
use Rattle.module_check.proofs.Tests.{pointwise_same}
use Rattle.module_check.proofs.Steps.{fit, closed, expr_unread, expr_deep, expr_headless, expr_parts, end_unread, end_deep, end_headless, end_parts, end_done, leaf_read, one_judged, two_judged, if_read, let_body, tagcase_arms, for_read, forall_read, forall_unbound, forall_clash, fails_second, fails_third, iter_asked, if_end_read, let_end_body, tagcase_ends, done_asked}
use Rattle.module_check.proofs.Loops.{shared, first_shared, Listing, Arming, listing_none, listing_more, listing_fails, listing_clash, listing_done, arming_none, arming_more, arming_fails, arming_clash, arming_done, ending_none, ending_more, ending_fails, ending_done}
use Rattle.module_check.proofs.reader.Reader.+expressions.Goals as goal
use Rattle.module_check.proofs.reader.Reader.+expressions.Goals.{forall-else-is_one-via-then-is_one+then-is_one-2+else-is_one-3, forall-else-is_one-via-then-is_one+else-is_one-2, forall-else-is_one-via-else-is_one}

pub branch-returns-then-eq : goal.branch-returns-then-eq
branch-returns-then-eq t c =
    let X = c.in_ok-test.ensures in
    let Y = c.in_ok-taken.ensures in
    let Z = c.in_ok-other.ensures in
    record { later = omega (arith, X.later, Y.later, Z.later); reads = if_read (counts_in c.args.parent.now.scene) (expr_in c.args.parent.now.scene) (names_in c.args.parent.now.scene) c.args.parent.now.start c.args.self.now.at X.reads.0 Y.reads.0 Z.reads.0 _ _ c.in_ok-taken.taken _ _ _ _ _ _ _ X.reads.1 Y.reads.1 Z.reads.1 (sym c.is_one.ensures ∙ c.if-is_one.true) (sym (c.eq.ensures ∙ pointwise_same (used c.in_ok-taken.taken) (used c.in_ok-other.other)) ∙ c.if-eq.true) X.reads.2 Y.reads.2 Z.reads.2 Y.reads.3 }

pub cycle-returns : goal.cycle-returns
cycle-returns t c =
    let X = c.in_ok-names.ensures in
    let I = (c.in_ok-scope.ensures _) in
    let Y = c.in_ok-end.ensures in
    record { later = omega (arith, X.later, Y.later); reads = for_read (counts_in c.args.parent.now.scene) (expr_in c.args.parent.now.scene) (end_in c.args.parent.now.scene) (names_in c.args.parent.now.scene) c.args.parent.now.start c.args.self.now.at X.reads.0 _ _ Y.reads.0 c.args.results _ _ _ _ _ X.reads.1 I Y.reads.1 X.reads.2 Y.reads.2 }

pub forall-returns-then-is_one-3 : goal.forall-returns-then-is_one-3
forall-returns-then-is_one-3 t c =
    let X = c.in_ok-low.ensures in
    let Y = c.in_ok-high.ensures in
    let I = (c.in_ok-scope.ensures _) in
    let Z = c.in_ok-types.ensures in
    record { later = omega (arith, X.later, Y.later, Z.later); reads = forall_read (counts_in c.args.parent.now.scene) (expr_in c.args.parent.now.scene) (names_in c.args.parent.now.scene) c.args.parent.now.start c.args.self.now.at c.args.merge c.args.part X.reads.0 Y.reads.0 Z.reads.0 _ _ _ _ _ c.single-then-is_one-3.result _ _ _ _ _ _ _ X.reads.1 Y.reads.1 c.single.ensures I Z.reads.1 (sym c.is_one.ensures ∙ c.if-is_one.true) (sym c.is_one-then-is_one.ensures ∙ c.if-is_one-2.true) (sym c.is_one-then-is_one-2.ensures ∙ c.if-is_one-3.true) (c.single-then-is_one-3.ensures ∙ ap (λ z. z ∷ []) c.merge_type.ensures) X.reads.2 Y.reads.2 Z.reads.2 }

pub end_if-returns : goal.end_if-returns
end_if-returns t c =
    let X = c.in_ok-test.ensures in
    let Y = c.in_ok-end.ensures in
    let Z = c.in_ok-end-2.ensures in
    record { later = omega (arith, X.later, Y.later, Z.later); reads = if_end_read (counts_in c.args.parent.now.scene) (expr_in c.args.parent.now.scene) (end_in c.args.parent.now.scene) (used c.args.enclosing.results) (used c.args.enclosing.names) (names_in c.args.parent.now.scene) c.args.parent.now.start c.args.self.now.at X.reads.0 _ Y.reads.0 Z.reads.0 _ _ _ _ _ _ _ X.reads.1 Y.reads.1 Z.reads.1 (sym c.is_one.ensures ∙ c.in_ok-clash_unless.ensures) X.reads.2 Y.reads.2 Z.reads.2 }

pub parts-returns-in-Leaf : goal.parts-returns-in-Leaf
parts-returns-in-Leaf t c =
    record { later = search rules; reads = subst (λ h. PartsRead (counts_in c.args.parent.now.scene) h (parts_at (context_in c.args.parent.now.scene) (expr_in c.args.parent.now.scene) (end_in c.args.parent.now.scene) h (names_in c.args.parent.now.scene) c.args.parent.now.start c.args.self.now.at) (vec_items c.args.self.now.nodes) (vec_items c.args.self.now.nodes) c.args.self.now.at (Ok c.single.result)) (sym c.in-Leaf.is) (leaf_read (counts_in c.args.parent.now.scene) (context_in c.args.parent.now.scene) (expr_in c.args.parent.now.scene) (end_in c.args.parent.now.scene) (names_in c.args.parent.now.scene) c.args.parent.now.start c.args.self.now.at c.in-Leaf.field-0 c.in-Leaf.number c.single.result (vec_items c.args.self.now.nodes) c.single.ensures) }

pub expr-returns-in_err-sort : goal.expr-returns-in_err-sort
expr-returns-in_err-sort t c =
    let p = err_from_is_err_and c.from_residual.result c.from_residual.ensures.1 in
    record { later = search rules; reads = rw (p.1, p.2) (expr_unread (context_in c.args.scene.now) c.args.scene.now.bytes.now (names_in c.args.scene.now) c.args.self.now.at c.args.scene.now.room _ c.in_err-sort.ensures) }

pub expr-returns-then-scene-eq0 : goal.expr-returns-then-scene-eq0
expr-returns-then-scene-eq0 t c =
    record { later = search rules; reads = inr (expr_deep (context_in c.args.scene.now) c.args.scene.now.bytes.now (names_in c.args.scene.now) c.args.self.now.at c.args.scene.now.room _ _ c.if-scene-eq0.true c.in_ok-sort.ensures) }

pub expr-returns-in_err-head : goal.expr-returns-in_err-head
expr-returns-in_err-head t c =
    let p = err_from_is_err_and c.from_residual-in_err-head.result c.from_residual-in_err-head.ensures.1 in
    let O = c.in_ok-here.ensures in
    let B = c.in_err-head.ensures in
    let pos : 0 < c.args.scene.now.room = omega arith in
    record { later = omega (arith, O.still, B.forward); reads = rw (p.1, p.2) (expr_headless (context_in c.args.scene.now) c.args.scene.now.bytes.now (names_in c.args.scene.now) c.args.self.now.at c.args.scene.now.room _ _ _ pos c.in_ok-sort.ensures (subst (λ p. Declines (head_at (context_in c.args.scene.now) c.args.scene.now.bytes.now (names_in c.args.scene.now) c.in_ok-sort.sort p) c.in_err-head.field-0.0) O.still B.reads)) }

pub expr-returns-in_err-types : goal.expr-returns-in_err-types
expr-returns-in_err-types t c =
    let p = err_from_is_err_and c.from_residual-in_err-types.result c.from_residual-in_err-types.ensures.1 in
    let O = c.in_ok-here.ensures in
    let H = c.in_ok-head.ensures in
    let B = c.in_err-types.ensures in
    let pos : 0 < c.args.scene.now.room = omega arith in
    record { later = omega (arith, O.still, H.forward, B.later); reads = rw (p.1, p.2) (subst (λ o. Declines o c.in_err-types.field-0.0) (sym (expr_parts (context_in c.args.scene.now) c.args.scene.now.bytes.now (names_in c.args.scene.now) c.args.self.now.at c.args.scene.now.room _ _ _ _ pos c.in_ok-sort.ensures (ap (λ p. head_at (context_in c.args.scene.now) c.args.scene.now.bytes.now (names_in c.args.scene.now) c.in_ok-sort.sort p) (sym O.still) ∙ H.reads))) B.reads) }

pub expr-returns : goal.expr-returns
expr-returns t c =
    let P = c.in_ok-types.ensures in
    let O = c.in_ok-here.ensures in
    let H = c.in_ok-head.ensures in
    let grown = P.reads.4 ∙ ap (λ v. vec_items v ++ P.reads.1) H.kept in
    let Z = c.close.ensures in
    let pos : 0 < c.args.scene.now.room = omega arith in
    let noted = closed c.noted.result O.opened.1.0 (vec_items c.args.self.now.nodes) (vec_items c.open.new.self.nodes) (vec_items c.parts.new.self.nodes) P.reads.1 c.in_ok-here.here _ _ O.opened.0 O.opened.1.1 grown (ap (λ z. z - c.in_ok-here.here) c.parts.new.self.nodes.ok.0) Z.closed in
    record {
      later = omega (arith, O.still, H.forward, P.later, Z.still);
      reads = (
        P.reads.0,
        expr_parts (context_in c.args.scene.now) c.args.scene.now.bytes.now (names_in c.args.scene.now) c.args.self.now.at c.args.scene.now.room _ _ _ _ pos c.in_ok-sort.ensures (ap (λ p. head_at (context_in c.args.scene.now) c.args.scene.now.bytes.now (names_in c.args.scene.now) c.in_ok-sort.sort p) (sym O.still) ∙ H.reads) ∙ (P.reads.2 ∙ ap (λ z. accepted (typed P.reads.0 (used c.in_ok-types.types)) z) (sym Z.still)),
        noted ∙ (ap (λ k. (vec_items c.args.self.now.nodes) ++ node k P.reads.1) c.noted.ensures ∙ ap (λ z. (vec_items c.args.self.now.nodes) ++ z) (sym P.reads.3)),
        P.reads.5,
      );
    }

pub end-returns-in_err-sort : goal.end-returns-in_err-sort
end-returns-in_err-sort t c =
    let p = err_from_is_err_and c.from_residual.result c.from_residual.ensures.1 in
    record { later = search rules; reads = rw (p.1, p.2) (end_unread (context_in c.args.scene.now) c.args.scene.now.bytes.now (names_in c.args.scene.now) c.args.self.now.at (used c.args.enclosing.results) (used c.args.enclosing.names) c.args.scene.now.room _ c.in_err-sort.ensures) }

pub end-returns-then-scene-eq0 : goal.end-returns-then-scene-eq0
end-returns-then-scene-eq0 t c =
    record { later = search rules; reads = inr (end_deep (context_in c.args.scene.now) c.args.scene.now.bytes.now (names_in c.args.scene.now) c.args.self.now.at (used c.args.enclosing.results) (used c.args.enclosing.names) c.args.scene.now.room _ _ c.if-scene-eq0.true c.in_ok-sort.ensures) }

pub end-returns-in_err-head : goal.end-returns-in_err-head
end-returns-in_err-head t c =
    let p = err_from_is_err_and c.from_residual-in_err-head.result c.from_residual-in_err-head.ensures.1 in
    let O = c.in_ok-here.ensures in
    let B = c.in_err-head.ensures in
    let pos : 0 < c.args.scene.now.room = omega arith in
    record { later = omega (arith, O.still, B.forward); reads = rw (p.1, p.2) (end_headless (context_in c.args.scene.now) c.args.scene.now.bytes.now (names_in c.args.scene.now) c.args.self.now.at (used c.args.enclosing.results) (used c.args.enclosing.names) c.args.scene.now.room _ _ _ pos c.in_ok-sort.ensures (sym c.is_end.ensures ∙ c.if-not-is_end.false) (subst (λ p. Declines (head_at (context_in c.args.scene.now) c.args.scene.now.bytes.now (names_in c.args.scene.now) c.in_ok-sort.sort p) c.in_err-head.field-0.0) O.still B.reads)) }

pub end-returns-in_err-end_parts : goal.end-returns-in_err-end_parts
end-returns-in_err-end_parts t c =
    let p = err_from_is_err_and c.from_residual-in_err-end_parts.result c.from_residual-in_err-end_parts.ensures.1 in
    let O = c.in_ok-here.ensures in
    let H = c.in_ok-head.ensures in
    let B = c.in_err-end_parts.ensures in
    let pos : 0 < c.args.scene.now.room = omega arith in
    record { later = omega (arith, O.still, H.forward, B.later); reads = rw (p.1, p.2) (subst (λ o. Declines o c.in_err-end_parts.field-0.0) (sym (end_parts (context_in c.args.scene.now) c.args.scene.now.bytes.now (names_in c.args.scene.now) c.args.self.now.at (used c.args.enclosing.results) (used c.args.enclosing.names) c.args.scene.now.room _ _ _ _ pos c.in_ok-sort.ensures (sym c.is_end.ensures ∙ c.if-not-is_end.false) (ap (λ p. head_at (context_in c.args.scene.now) c.args.scene.now.bytes.now (names_in c.args.scene.now) c.in_ok-sort.sort p) (sym O.still) ∙ H.reads))) B.reads) }

pub end-returns : goal.end-returns
end-returns t c =
    let P = c.in_ok-end_parts.ensures in
    let O = c.in_ok-here.ensures in
    let H = c.in_ok-head.ensures in
    let grown = P.reads.4 ∙ ap (λ v. vec_items v ++ P.reads.1) H.kept in
    let Z = c.close.ensures in
    let pos : 0 < c.args.scene.now.room = omega arith in
    let noted = closed c.end_noted.result O.opened.1.0 (vec_items c.args.self.now.nodes) (vec_items c.open.new.self.nodes) (vec_items c.end_parts.new.self.nodes) P.reads.1 c.in_ok-here.here _ _ O.opened.0 O.opened.1.1 grown (ap (λ z. z - c.in_ok-here.here) c.end_parts.new.self.nodes.ok.0) Z.closed in
    record {
      later = omega (arith, O.still, H.forward, P.later, Z.still);
      reads = (
        P.reads.0,
        end_parts (context_in c.args.scene.now) c.args.scene.now.bytes.now (names_in c.args.scene.now) c.args.self.now.at (used c.args.enclosing.results) (used c.args.enclosing.names) c.args.scene.now.room _ _ _ _ pos c.in_ok-sort.ensures (sym c.is_end.ensures ∙ c.if-not-is_end.false) (ap (λ p. head_at (context_in c.args.scene.now) c.args.scene.now.bytes.now (names_in c.args.scene.now) c.in_ok-sort.sort p) (sym O.still) ∙ H.reads) ∙ (P.reads.2 ∙ ap (accepted P.reads.0) (sym Z.still)),
        noted ∙ (ap (λ k. (vec_items c.args.self.now.nodes) ++ node k P.reads.1) c.end_noted.ensures ∙ ap (λ z. (vec_items c.args.self.now.nodes) ++ z) (sym P.reads.3)),
      );
    }

pub list-loop-number-init : goal.list-loop-number-init
list-loop-number-init t c =
    (omega arith, omega (arith, length-take {A = ℕ} c.args.members (replicate 8 0), c.requires.1), listing_none (counts_in c.args.parent.now.scene) (expr_in c.args.parent.now.scene) (names_in c.args.parent.now.scene) c.args.members c.args.self.now.at (vec_items c.args.self.now.nodes) (take c.args.members (replicate 8 0)))

pub list-loop-number-preserved : goal.list-loop-number-preserved
list-loop-number-preserved t c =
    let I = c.loop-number.invariant in
    let X = c.in_ok-part.ensures in
    let l : c.loop-number.number-index < length c.loop-number.number-items = omega (arith, c.loop-number.auto.number-items) in
    (omega (arith, I.0, X.later), length-set c.loop-number.number-items c.loop-number.number-index c.lead.result ∙ I.1, listing_more (counts_in c.args.parent.now.scene) (expr_in c.args.parent.now.scene) (names_in c.args.parent.now.scene) c.args.members c.args.self.now.at (vec_items c.args.self.now.nodes) c.loop-number.number-index c.loop-number.number-items c.loop-number.singles _ _ _ c.loop-number.self.at _ c.lead.result X.reads.0 _ I.2 (omega (arith, I.1, c.loop-number.auto.number-items)) l X.reads.1 X.reads.2 (ap (λ b. c.loop-number.singles && b) c.is_single-singles.ensures) c.lead.ensures)

pub list-returns-in_err-part : goal.list-returns-in_err-part
list-returns-in_err-part t c =
    let p = err_from_is_err_and c.from_residual.result c.from_residual.ensures.1 in
    let I = c.loop-number.invariant in
    let B = c.in_err-part.ensures in
    record { later = omega (arith, I.0, B.later); reads = rw (p.1, p.2) (listing_fails (counts_in c.args.parent.now.scene) (expr_in c.args.parent.now.scene) (names_in c.args.parent.now.scene) c.args.members c.args.self.now.at (vec_items c.args.self.now.nodes) c.args.parent.now.start c.loop-number.number-index c.loop-number.number-items c.loop-number.singles _ c.loop-number.self.at _ I.2 (omega (arith, I.1, c.loop-number.auto.number-items)) B.reads) }

pub list-returns-then-not-singles : goal.list-returns-then-not-singles
list-returns-then-not-singles t c =
    let I = c.loop-number.invariant in
    let f = c.if-not-singles.true in
    record { later = I.0; reads = inr (listing_clash (counts_in c.args.parent.now.scene) (expr_in c.args.parent.now.scene) (names_in c.args.parent.now.scene) c.args.members c.args.self.now.at (vec_items c.args.self.now.nodes) c.args.parent.now.start c.loop-number.number-index c.loop-number.number-items _ c.loop-number.self.at (subst (λ b. Listing (counts_in c.args.parent.now.scene) (expr_in c.args.parent.now.scene) (names_in c.args.parent.now.scene) c.args.members c.args.self.now.at (vec_items c.args.self.now.nodes) c.loop-number.number-index c.loop-number.number-items b (vec_items c.loop-number.self.nodes) c.loop-number.self.at) f I.2) (omega (arith, I.1, c.loop-number.auto.number-items))) }

pub list-returns : goal.list-returns
list-returns t c =
    let I = c.loop-number.invariant in
    let M = c.in-Some.ensures in
    let f = c.if-not-singles.false in
    record { later = I.0; reads = listing_done (counts_in c.args.parent.now.scene) (expr_in c.args.parent.now.scene) (names_in c.args.parent.now.scene) c.args.members c.args.self.now.at (vec_items c.args.self.now.nodes) c.args.parent.now.start c.loop-number.number-index c.loop-number.number-items _ c.loop-number.self.at _ c.in-Some.types (subst (λ b. Listing (counts_in c.args.parent.now.scene) (expr_in c.args.parent.now.scene) (names_in c.args.parent.now.scene) c.args.members c.args.self.now.at (vec_items c.args.self.now.nodes) c.loop-number.number-index c.loop-number.number-items b (vec_items c.loop-number.self.nodes) c.loop-number.self.at) f I.2) (omega (arith, I.1, c.loop-number.auto.number-items)) (omega (arith, I.1, c.loop-number.auto.number-items, c.loop-number.auto.number-index-end)) I.1 M.0 M.1 }

pub one-returns : goal.one-returns
one-returns t c =
    let X = c.in_ok-part.ensures in
    record { later = X.later; reads = one_judged (context_in c.args.parent.now.scene) (expr_in c.args.parent.now.scene) (names_in c.args.parent.now.scene) c.args.parent.now.start c.args.self.now.at c.args.one X.reads.0 _ _ _ _ c.judge_one.result X.reads.1 c.judge_one.ensures X.reads.2 }

pub two-returns : goal.two-returns
two-returns t c =
    let X = c.in_ok-first.ensures in
    let Y = c.in_ok-second.ensures in
    record { later = omega (arith, X.later, Y.later); reads = two_judged (counts_in c.args.parent.now.scene) (context_in c.args.parent.now.scene) (expr_in c.args.parent.now.scene) (names_in c.args.parent.now.scene) c.args.parent.now.start c.args.self.now.at c.args.two X.reads.0 Y.reads.0 _ _ _ _ _ _ _ c.judge_two.result X.reads.1 Y.reads.1 c.judge_two.ensures X.reads.2 Y.reads.2 }

pub binding-returns : goal.binding-returns
binding-returns t c =
    let X = c.in_ok-definition.ensures in
    let Y = c.expr-2.ensures in
    record { later = omega (arith, X.later, Y.later); reads = let_body (counts_in c.args.parent.now.scene) (expr_in c.args.parent.now.scene) (names_in c.args.parent.now.scene) c.args.parent.now.start c.args.self.now.at X.reads.0 _ _ _ _ _ _ _ c.expr-2.result X.reads.1 (c.in_ok-scope.ensures _) Y.reads X.reads.2 }

pub tagcase-returns : goal.tagcase-returns
tagcase-returns t c =
    let X = c.in_ok-test.ensures in
    let Y = c.arms.ensures in
    record { later = omega (arith, X.later, Y.later); reads = tagcase_arms (counts_in c.args.parent.now.scene) (context_in c.args.parent.now.scene) (expr_in c.args.parent.now.scene) (names_in c.args.parent.now.scene) c.args.parent.now.start c.args.self.now.at c.args.arms X.reads.0 _ _ _ _ _ _ _ c.arms.result X.reads.1 (c.in_ok-constituents.ensures _) (search rules) Y.reads X.reads.2 }

pub end_let-returns : goal.end_let-returns
end_let-returns t c =
    let X = c.in_ok-definition.ensures in
    let Y = c.end.ensures in
    record { later = omega (arith, X.later, Y.later); reads = let_end_body (counts_in c.args.parent.now.scene) (expr_in c.args.parent.now.scene) (end_in c.args.parent.now.scene) (used c.args.enclosing.results) (used c.args.enclosing.names) (names_in c.args.parent.now.scene) c.args.parent.now.start c.args.self.now.at X.reads.0 _ _ _ _ _ _ _ c.end.result X.reads.1 (c.in_ok-scope.ensures _) Y.reads X.reads.2 }

pub end_tag-returns : goal.end_tag-returns
end_tag-returns t c =
    let X = c.in_ok-test.ensures in
    let Y = c.ends.ensures in
    record { later = omega (arith, X.later, Y.later); reads = tagcase_ends (counts_in c.args.parent.now.scene) (expr_in c.args.parent.now.scene) (end_in c.args.parent.now.scene) (used c.args.enclosing.results) (used c.args.enclosing.names) (names_in c.args.parent.now.scene) c.args.parent.now.start c.args.self.now.at (context_in c.args.parent.now.scene) c.args.arms X.reads.0 _ _ _ _ _ _ _ c.ends.result X.reads.1 (c.in_ok-constituents.ensures _) (search rules) Y.reads X.reads.2 }

pub end-returns-then-not-is_end : goal.end-returns-then-not-is_end
end-returns-then-not-is_end t c =
    let R = c.asked.ensures in
    let done = end_done (context_in c.args.scene.now) c.args.scene.now.bytes.now (names_in c.args.scene.now) c.args.self.now.at (used c.args.enclosing.results) (used c.args.enclosing.names) c.args.scene.now.room _ _ c.in_ok-sort.ensures (sym c.is_end.ensures ∙ c.if-not-is_end.true) in
    record { later = R.later; reads = subst (λ o. EndRead (counts_in c.args.scene.now) (length (used c.args.enclosing.results)) o (vec_items c.args.self.now.nodes) (vec_items c.asked.new.self.nodes) c.asked.new.self.at c.asked.result) (sym done) (done_asked (counts_in c.args.scene.now) (used c.args.enclosing.results) _ c.args.self.now.at _ _ _ c.asked.result R.reads) }

pub end_parts-returns-in-Iter : goal.end_parts-returns-in-Iter
end_parts-returns-in-Iter t c =
    let R = c.asked.ensures in
    record { later = R.later; reads = subst (λ h. EndPartsRead (counts_in c.args.parent.now.scene) (used c.args.enclosing.results) h (end_parts_at (context_in c.args.parent.now.scene) (expr_in c.args.parent.now.scene) (end_in c.args.parent.now.scene) h (used c.args.enclosing.results) (used c.args.enclosing.names) (names_in c.args.parent.now.scene) c.args.parent.now.start c.args.self.now.at) (vec_items c.args.self.now.nodes) (vec_items c.asked.new.self.nodes) c.asked.new.self.at c.asked.result) (sym c.in-Iter.is) (iter_asked (counts_in c.args.parent.now.scene) (expr_in c.args.parent.now.scene) (end_in c.args.parent.now.scene) (used c.args.enclosing.results) (used c.args.enclosing.names) (names_in c.args.parent.now.scene) c.args.parent.now.start c.args.self.now.at _ _ _ c.asked.result R.reads) }

pub arms-loop-constituent-init : goal.arms-loop-constituent-init
arms-loop-constituent-init t c = (omega arith, refl, arming_none (counts_in c.args.parent.now.scene) (expr_in c.args.parent.now.scene) (used c.args.constituents) (names_in c.args.parent.now.scene) c.args.self.now.at (vec_items c.args.self.now.nodes) [])

pub arms-loop-constituent-preserved : goal.arms-loop-constituent-preserved
arms-loop-constituent-preserved t c =
    let I = c.loop-constituent.invariant in
    let S = c.as_slice-constituent-items.ensures in
    let l : c.loop-constituent.constituent-index < length (used c.args.constituents) = subst (λ xs. c.loop-constituent.constituent-index < length xs) S c.loop-constituent-test.true in
    let under = c.with.ensures ∙ ap (λ xs. (names_in c.args.parent.now.scene) ++ get_or xs c.loop-constituent.constituent-index 0 ∷ []) S in
    let X = c.in_ok-types.ensures in
    let w = ap used c.unwrap_or-shared.ensures ∙ first_shared c.loop-constituent.first c.in_ok-types.types c.loop-constituent.constituent-index I.1 in
    (omega (arith, I.0, X.later), sym (lt-ltb 0 (c.loop-constituent.constituent-index + 1) (omega arith)), arming_more (counts_in c.args.parent.now.scene) (expr_in c.args.parent.now.scene) (used c.args.constituents) (names_in c.args.parent.now.scene) c.args.self.now.at (vec_items c.args.self.now.nodes) c.loop-constituent.constituent-index c.loop-constituent.agree _ _ _ c.loop-constituent.self.at _ X.reads.0 (shared c.loop-constituent.first) (used c.in_ok-types.types) (used c.unwrap_or-shared.result) I.2 l (ap (λ z. (expr_in c.args.parent.now.scene) z c.loop-constituent.self.at) (sym under) ∙ X.reads.1) X.reads.2 X.reads.3 w (ap (λ b. c.loop-constituent.agree && b) (c.eq-agree.ensures ∙ pointwise_same (used c.unwrap_or-shared.result) (used c.in_ok-types.types))))

pub arms-returns-in_err-types : goal.arms-returns-in_err-types
arms-returns-in_err-types t c =
    let p = err_from_is_err_and c.from_residual.result c.from_residual.ensures.1 in
    let I = c.loop-constituent.invariant in
    let S = c.as_slice-constituent-items.ensures in
    let l : c.loop-constituent.constituent-index < length (used c.args.constituents) = subst (λ xs. c.loop-constituent.constituent-index < length xs) S c.loop-constituent-test.true in
    let under = c.with.ensures ∙ ap (λ xs. (names_in c.args.parent.now.scene) ++ get_or xs c.loop-constituent.constituent-index 0 ∷ []) S in
    let B = c.in_err-types.ensures in
    record { later = omega (arith, I.0, B.later); reads = rw (p.1, p.2) (arming_fails (counts_in c.args.parent.now.scene) (expr_in c.args.parent.now.scene) (used c.args.constituents) (names_in c.args.parent.now.scene) c.args.self.now.at (vec_items c.args.self.now.nodes) c.args.parent.now.start c.loop-constituent.constituent-index c.loop-constituent.agree _ c.loop-constituent.self.at (shared c.loop-constituent.first) _ I.2 l (subst (λ z. Declines ((expr_in c.args.parent.now.scene) z c.loop-constituent.self.at) c.in_err-types.field-0.0) under B.reads)) }

pub arms-returns : goal.arms-returns
arms-returns t c =
    let I = c.loop-constituent.invariant in
    let S = c.as_slice-constituent-items.ensures in
    let le : length (used c.args.constituents) ≤ c.loop-constituent.constituent-index = subst (λ xs. length xs ≤ c.loop-constituent.constituent-index) S c.loop-constituent-test.false in
    let ge : c.loop-constituent.constituent-index ≤ length (used c.args.constituents) = subst (λ xs. c.loop-constituent.constituent-index ≤ length xs) S c.loop-constituent.auto.constituent-index-end in
    let some : 1 ≤ c.loop-constituent.constituent-index = omega (arith, (members_few c.args.constituents).some) in
    let all = subst (λ o. Arming (counts_in c.args.parent.now.scene) (expr_in c.args.parent.now.scene) (used c.args.constituents) (names_in c.args.parent.now.scene) c.args.self.now.at (vec_items c.args.self.now.nodes) (shared o) c.loop-constituent.constituent-index true (vec_items c.loop-constituent.self.nodes) c.loop-constituent.self.at) c.in-Some.is (subst (λ b. Arming (counts_in c.args.parent.now.scene) (expr_in c.args.parent.now.scene) (used c.args.constituents) (names_in c.args.parent.now.scene) c.args.self.now.at (vec_items c.args.self.now.nodes) (shared c.loop-constituent.first) c.loop-constituent.constituent-index b (vec_items c.loop-constituent.self.nodes) c.loop-constituent.self.at) c.in_ok-clash_unless.ensures I.2) in
    record { later = I.0; reads = arming_done (counts_in c.args.parent.now.scene) (expr_in c.args.parent.now.scene) (used c.args.constituents) (names_in c.args.parent.now.scene) c.args.self.now.at (vec_items c.args.self.now.nodes) c.args.parent.now.start c.loop-constituent.constituent-index _ c.loop-constituent.self.at c.in-Some.types all le ge some }

pub arms-returns-in_err-clash_unless : goal.arms-returns-in_err-clash_unless
arms-returns-in_err-clash_unless t c =
    let p = err_from_is_err_and c.from_residual-in_err-clash_unless.result c.from_residual-in_err-clash_unless.ensures.1 in
    let k = c.in_err-clash_unless.ensures in
    let I = c.loop-constituent.invariant in
    let S = c.as_slice-constituent-items.ensures in
    let le : length (used c.args.constituents) ≤ c.loop-constituent.constituent-index = subst (λ xs. length xs ≤ c.loop-constituent.constituent-index) S c.loop-constituent-test.false in
    let ge : c.loop-constituent.constituent-index ≤ length (used c.args.constituents) = subst (λ xs. c.loop-constituent.constituent-index ≤ length xs) S c.loop-constituent.auto.constituent-index-end in
    let some : 1 ≤ c.loop-constituent.constituent-index = omega (arith, (members_few c.args.constituents).some) in
    let all = subst (λ b. Arming (counts_in c.args.parent.now.scene) (expr_in c.args.parent.now.scene) (used c.args.constituents) (names_in c.args.parent.now.scene) c.args.self.now.at (vec_items c.args.self.now.nodes) (shared c.loop-constituent.first) c.loop-constituent.constituent-index b (vec_items c.loop-constituent.self.nodes) c.loop-constituent.self.at) k.0 I.2 in
    record { later = I.0; reads = rw (p.1, p.2, k.1) (inr (arming_clash (counts_in c.args.parent.now.scene) (expr_in c.args.parent.now.scene) (used c.args.constituents) (names_in c.args.parent.now.scene) c.args.self.now.at (vec_items c.args.self.now.nodes) c.args.parent.now.start c.loop-constituent.constituent-index _ c.loop-constituent.self.at (shared c.loop-constituent.first) all le some)) }

pub ends-loop-constituent-init : goal.ends-loop-constituent-init
ends-loop-constituent-init t c = (omega arith, ending_none (counts_in c.args.scene.now) (end_in c.args.scene.now) (used c.args.enclosing.results) (used c.args.enclosing.names) (used c.args.constituents) (names_in c.args.scene.now) c.args.self.now.at (vec_items c.args.self.now.nodes))

pub ends-loop-constituent-preserved : goal.ends-loop-constituent-preserved
ends-loop-constituent-preserved t c =
    let I = c.loop-constituent.invariant in
    let S = c.as_slice-constituent-items.ensures in
    let l : c.loop-constituent.constituent-index < length (used c.args.constituents) = subst (λ xs. c.loop-constituent.constituent-index < length xs) S c.loop-constituent-test.true in
    let under = c.with.ensures ∙ ap (λ xs. (names_in c.args.scene.now) ++ get_or xs c.loop-constituent.constituent-index 0 ∷ []) S in
    let X = c.in_ok-end.ensures in
    (omega (arith, I.0, X.later), ending_more (counts_in c.args.scene.now) (end_in c.args.scene.now) (used c.args.enclosing.results) (used c.args.enclosing.names) (used c.args.constituents) (names_in c.args.scene.now) c.args.self.now.at (vec_items c.args.self.now.nodes) c.loop-constituent.constituent-index _ _ c.loop-constituent.self.at _ X.reads.0 I.1 l (ap (λ z. (end_in c.args.scene.now) (used c.args.enclosing.results) (used c.args.enclosing.names) z c.loop-constituent.self.at) (sym under) ∙ X.reads.1) X.reads.2)

pub ends-returns-in_err-end : goal.ends-returns-in_err-end
ends-returns-in_err-end t c =
    let p = err_from_is_err_and c.from_residual.result c.from_residual.ensures.1 in
    let I = c.loop-constituent.invariant in
    let S = c.as_slice-constituent-items.ensures in
    let l : c.loop-constituent.constituent-index < length (used c.args.constituents) = subst (λ xs. c.loop-constituent.constituent-index < length xs) S c.loop-constituent-test.true in
    let under = c.with.ensures ∙ ap (λ xs. (names_in c.args.scene.now) ++ get_or xs c.loop-constituent.constituent-index 0 ∷ []) S in
    let B = c.in_err-end.ensures in
    record { later = omega (arith, I.0, B.later); reads = rw (p.1, p.2) (ending_fails (counts_in c.args.scene.now) (end_in c.args.scene.now) (used c.args.enclosing.results) (used c.args.enclosing.names) (used c.args.constituents) (names_in c.args.scene.now) c.args.self.now.at (vec_items c.args.self.now.nodes) c.loop-constituent.constituent-index _ c.loop-constituent.self.at _ I.1 l (subst (λ z. Declines ((end_in c.args.scene.now) (used c.args.enclosing.results) (used c.args.enclosing.names) z c.loop-constituent.self.at) c.in_err-end.field-0.0) under B.reads)) }

pub ends-returns : goal.ends-returns
ends-returns t c =
    let I = c.loop-constituent.invariant in
    let S = c.as_slice-constituent-items.ensures in
    let le : length (used c.args.constituents) ≤ c.loop-constituent.constituent-index = subst (λ xs. length xs ≤ c.loop-constituent.constituent-index) S c.loop-constituent-test.false in
    let ge : c.loop-constituent.constituent-index ≤ length (used c.args.constituents) = subst (λ xs. c.loop-constituent.constituent-index ≤ length xs) S c.loop-constituent.auto.constituent-index-end in
    record { later = I.0; reads = ending_done (counts_in c.args.scene.now) (end_in c.args.scene.now) (used c.args.enclosing.results) (used c.args.enclosing.names) (used c.args.constituents) (names_in c.args.scene.now) c.args.self.now.at (vec_items c.args.self.now.nodes) c.loop-constituent.constituent-index _ c.loop-constituent.self.at I.1 le ge }

pub forall-returns-in_err-scope : goal.forall-returns-in_err-scope
forall-returns-in_err-scope t c =
    let p = err_from_is_err_and c.from_residual-in_err-scope.result c.from_residual-in_err-scope.ensures.1 in
    let X = c.in_ok-low.ensures in
    let Y = c.in_ok-high.ensures in
    record { later = omega (arith, X.later, Y.later); reads = rw (p.1, p.2) (forall_unbound (expr_in c.args.parent.now.scene) (names_in c.args.parent.now.scene) c.args.parent.now.start c.args.self.now.at c.args.merge c.args.part X.reads.0 Y.reads.0 _ _ _ _ _ _ X.reads.1 Y.reads.1 c.single.ensures (c.in_err-scope.ensures _)) }

pub forall-returns-else-is_one : goal.forall-returns-else-is_one
forall-returns-else-is_one t c =
    let X = c.in_ok-low.ensures in
    let Y = c.in_ok-high.ensures in
    let Z = c.in_ok-types.ensures in
    let one_low = same (1 ∷ []) (used c.in_ok-low.low) in
    let one_high = same (1 ∷ []) (used c.in_ok-high.high) in
    let one_part = same (c.args.part ∷ []) (used c.in_ok-types.types) in
    let fails : (one_low && (one_high && one_part)) ≡ false = elim c.else-is_one.branch [
      | forall-else-is_one-via-then-is_one+then-is_one-2+else-is_one-3 w ↦ fails_third one_low one_high one_part (sym w.is_one-then-is_one-2.ensures ∙ w.if-is_one-3.false)
      | forall-else-is_one-via-then-is_one+else-is_one-2 w ↦ fails_second one_low one_high one_part (sym w.is_one-then-is_one.ensures ∙ w.if-is_one-2.false)
      | forall-else-is_one-via-else-is_one w ↦ ap (λ b. b && (one_high && one_part)) (sym c.is_one.ensures ∙ w.if-is_one.false)
    ] in
    record { later = omega (arith, X.later, Y.later, Z.later); reads = inr (forall_clash (expr_in c.args.parent.now.scene) (names_in c.args.parent.now.scene) c.args.parent.now.start c.args.self.now.at c.args.merge c.args.part X.reads.0 Y.reads.0 Z.reads.0 _ _ _ _ _ _ _ _ X.reads.1 Y.reads.1 c.single.ensures (c.in_ok-scope.ensures _) Z.reads.1 fails) }

pub expr-parts-requires : goal.expr-parts-requires
expr-parts-requires t c =
    (search rules, fit (context_in c.args.scene.now) c.args.scene.now.bytes.now (names_in c.args.scene.now) c.open.new.self.at c.in_ok-sort.sort c.in_ok-head.head _ c.in_ok-head.ensures.reads)
