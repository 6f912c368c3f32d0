use Rattle.std.proofs.Common.{cond, [], ◌∷◌, ◌++◌, is_ok, vec_items, sym, refl, ap, ◌∙◌, subst}
use Rattle.std.proofs.lemmas.Result.{err_from_is_err_and}
use Rattle.values.specs.Tables.{rows_of}
use Rattle.language.specs.Typing.{context}
use Rattle.verdict.specs.Modules.{function_at}
use Rattle.module_check.specs.Views.{seen_all}
use Rattle.module_check.specs.Reading.{Declines}
use Rattle.module_check.proofs.ModuleFacts.{defining_none, defining_more, defining_fails, defining_done}
use Rattle.module_check.proofs.reader.Reader.functions.Goals as goal

pub loop-init : goal.loop-init
loop-init c = (refl, defining_none c.args.count (rows_of c.args.tables.now.types) c.args.bytes.now c.args.self.now.at _ _ c.requires.1 c.requires.0)

pub returns-in_err-function-clause-reads : goal.returns-in_err-function-clause-reads
returns-in_err-function-clause-reads c =
    let p = err_from_is_err_and c.from_residual.result c.from_residual.ensures.1 in
    let I = c.loop.invariant in
    let B = c.in_err-function.ensures in
    rw (p.1, p.2) (defining_fails c.args.count (rows_of c.args.tables.now.types) c.args.bytes.now c.args.self.now.at c.loop.counter _ _ _ _ I.1 c.loop-test.true
    (subst (λ z. Declines (function_at (context (rows_of z) (seen_all (vec_items c.loop.tables.functions))) c.args.bytes.now c.loop.self.at) c.in_err-function.field-0.0) I.0 B.reads))

pub loop-preserved : goal.loop-preserved
loop-preserved c =
    let I = c.loop.invariant in
    let F = c.in_ok-function.ensures.reads in
    let fs = vec_items c.loop.tables.functions in (
      I.0,
      defining_more c.args.count (rows_of c.args.tables.now.types) c.args.bytes.now c.args.self.now.at c.loop.counter _ _ _ _ _ _ c.in_ok-function.function F.0 I.1 c.loop-test.true
          (ap (λ z. function_at (context (rows_of z) (seen_all (vec_items c.loop.tables.functions))) c.args.bytes.now c.loop.self.at) (sym I.0) ∙ F.1) F.2 F.3 (c.push.ensures.items ∙ ap (λ r. cond (is_ok r) (fs ++ c.in_ok-function.function ∷ []) fs) c.in_ok-push.was),
    )

pub returns-clause-reads : goal.returns-clause-reads
returns-clause-reads c =
    let I = c.loop.invariant in
    (I.1.0, defining_done c.args.count (rows_of c.args.tables.now.types) c.args.bytes.now c.args.self.now.at c.loop.counter _ _ _ I.1 c.loop-test.false, I.1.3, I.1.4)
