use Rattle.std.proofs.Common.{ℕ, ◌+◌, ◌<◌, length, take, replicate, sym, ◌∙◌, subst, arith, length-set}
use lib.ListN.{length-replicate}
use Rattle.std.proofs.lemmas.List.{take_more_set}
use Rattle.std.proofs.lemmas.Result.{err_from_is_err_and}
use Rattle.verdict.specs.Outcomes.{Out}
use Rattle.verdict.specs.Bodies.{use_at, uses_at}
use Rattle.verdict.proofs.Each.{Going, going_more}
use Rattle.module_check.proofs.Facts.{going_declines, filled}
use Rattle.module_check.proofs.reader.Reader.uses.Goals as goal

pub returns-in_err-number-clause-reads : goal.returns-in_err-number-clause-reads
unfolding uses_at
returns-in_err-number-clause-reads c =
    let p = err_from_is_err_and c.from_residual.result c.from_residual.ensures.1 in
    let I = c.loop-number.invariant in
    rw (p.1, p.2) (going_declines (λ (_ : Unit {0}) q. use_at (c.args.rows + 2) c.args.bytes.now q) (replicate c.args.n tt) c.args.self.now.at c.loop-number.number-index _ tt _ _ (omega (arith, length-replicate {A = Unit {0}} c.args.n tt, I.2, c.loop-number.auto.number-items)) c.in_err-number.ensures.reads I.3)

pub loop-number-preserved : goal.loop-number-preserved
loop-number-preserved c =
    let I = c.loop-number.invariant in
    let N = c.in_ok-number.ensures in
    let xs = c.loop-number.number-items in
    let i = c.loop-number.number-index in
    let f : Unit {0} → ℕ → Out ℕ = λ _ q. use_at (c.args.rows + 2) c.args.bytes.now q in
    let l : i < length xs = omega (arith, c.loop-number.auto.number-items) in (
      N.kept ∙ I.0,
      omega (arith, I.1, N.forward),
      length-set xs i c.in_ok-number.field-0 ∙ I.2,
      subst (λ z. Going f (replicate c.args.n tt) c.args.self.now.at (i + 1) z c.type_use.new.self.at) (sym (take_more_set xs i c.in_ok-number.field-0 l))
          (going_more f (replicate c.args.n tt) c.args.self.now.at i c.loop-number.self.at c.type_use.new.self.at tt c.in_ok-number.field-0 (take i xs) (omega (arith, length-replicate {A = Unit {0}} c.args.n tt, I.2)) N.reads I.3),
    )

pub returns-clause-reads : goal.returns-clause-reads
unfolding uses_at
returns-clause-reads c =
    let I = c.loop-number.invariant in
    let M = rw c.unwrap.ensures at c.new.ensures in
    let f : Unit {0} → ℕ → Out ℕ = λ _ q. use_at (c.args.rows + 2) c.args.bytes.now q in
    filled f c.args.n c.args.self.now.at c.loop-number.number-index c.loop-number.self.at c.loop-number.number-items c.unwrap.result
    (omega (arith, I.2, c.loop-number.auto.number-items)) (omega (arith, I.2, c.loop-number.auto.number-items, c.loop-number.auto.number-index-end)) I.2 I.3 M.0 M.1
