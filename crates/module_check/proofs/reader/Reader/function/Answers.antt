use Rattle.std.proofs.Common.{◌≡◌, ◌+◌, true, ◌++◌, length, get_or, vec_items, sym, ap, subst, ◌∙◌}
use Rattle.std.proofs.lemmas.Result.{err_from_is_err_and}
use Rattle.values.specs.declared.refusal.Refusal.TheVariants.{Clash}
use Rattle.values.specs.Rows.{used}
use Rattle.language.specs.Sorts.{same}
use Rattle.language.specs.Tables.{flat, entry}
use Rattle.verdict.specs.Outcomes.{after, judged, body}
use Rattle.verdict.specs.Bodies.{few, uses_at}
use Rattle.verdict.specs.Expressions.{expr}
use Rattle.module_check.specs.Reading.{Declines}
use Rattle.module_check.specs.Views.{names, context_of, counts_of}
use Rattle.module_check.proofs.ModuleFacts.{function_reads, function_fails}
use Rattle.module_check.proofs.reader.Reader.function.Goals as goal

pub returns : goal.returns
returns c =
    let C = context_of c.args.tables.now in
    let bs = c.args.bytes.now in
    let start = c.args.self.now.at in
    let B = c.in_ok-parameters.ensures.reads.1 in
    let P = c.in_ok-parameters-2.ensures in
    let R = c.in_ok-results.ensures in
    let X = c.in_ok-asked.ensures.reads in
    let first : get_or c.in_ok-parameters.field-0 0 0 ≡ body bs start 1 = ap (λ ys. get_or ys 0 0) B in
    let second : get_or c.in_ok-parameters.field-0 1 0 ≡ body bs start 2 = ap (λ ys. get_or ys 1 0) B in
    let f1 : few (body bs start 1) ≡ true = ap few (sym first) ∙ (sym c.is_few.ensures ∙ c.if-not-is_few.false) in
    let f2 : few (body bs start 2) ≡ true = ap few (sym second) ∙ (sym c.is_few-else-not-is_few.ensures ∙ c.if-not-is_few-2.false) in
    let scope : names c.in-Some.scope ≡ used c.in_ok-parameters-2.parameters = c.in-Some.ensures.1 ∙ ap (λ z. z ++ used c.in_ok-parameters-2.parameters) c.empty.ensures in
    let kept = R.kept ∙ (P.kept ∙ c.in_ok-parameters.ensures.kept) in
    record {
      reads = (
        record { parameters = used c.in_ok-parameters-2.parameters; results = used c.in_ok-results.results; body = X.0 },
        function_reads C bs start _ _ _ _ _ _ _ c.in_ok-first.ensures c.if-branch-ne32.false c.in_ok-parameters.ensures.reads.0 f1 f2
            (ap (λ k. uses_at k (length C.rows + 2) bs c.body.new.self.at) (sym first) ∙ (ap (λ n. uses_at (get_or c.in_ok-parameters.field-0 0 0) (n + 2) bs c.body.new.self.at) (sym c.len.ensures) ∙ P.reads.0))
            (ap (λ k. uses_at k (length C.rows + 2) bs c.uses.new.self.at) (sym second) ∙ (ap (λ n. uses_at (get_or c.in_ok-parameters.field-0 1 0) (n + 2) bs c.uses.new.self.at) (sym c.len-2.ensures) ∙ R.reads.0))
            X.0 _
            (ap (λ g. expr C 100 bs g c.uses-2.new.self.at) (sym scope) ∙ X.1),
        ap (λ z. entry (used c.in_ok-parameters-2.parameters) (used c.in_ok-results.results) z) (c.len-first.ensures ∙ c.args.self.now.nodes.ok.0),
        X.2 ∙ ap (λ v. vec_items v ++ flat (counts_of c.args.tables.now) X.0) kept,
      );
    }

pub returns-in_err-asked : goal.returns-in_err-asked
returns-in_err-asked c =
    let e = err_from_is_err_and c.from_residual-in_err-asked.result c.from_residual-in_err-asked.ensures.1 in
    let C = context_of c.args.tables.now in
    let bs = c.args.bytes.now in
    let start = c.args.self.now.at in
    let B = c.in_ok-parameters.ensures.reads.1 in
    let P = c.in_ok-parameters-2.ensures in
    let R = c.in_ok-results.ensures in
    let first : get_or c.in_ok-parameters.field-0 0 0 ≡ body bs start 1 = ap (λ ys. get_or ys 0 0) B in
    let second : get_or c.in_ok-parameters.field-0 1 0 ≡ body bs start 2 = ap (λ ys. get_or ys 1 0) B in
    let f1 : few (body bs start 1) ≡ true = ap few (sym first) ∙ (sym c.is_few.ensures ∙ c.if-not-is_few.false) in
    let f2 : few (body bs start 2) ≡ true = ap few (sym second) ∙ (sym c.is_few-else-not-is_few.ensures ∙ c.if-not-is_few-2.false) in
    let scope : names c.in-Some.scope ≡ used c.in_ok-parameters-2.parameters = c.in-Some.ensures.1 ∙ ap (λ z. z ++ used c.in_ok-parameters-2.parameters) c.empty.ensures in
    record {
      reads = rw (e.1, e.2) (function_fails C bs start _ _ _ _ _ _ _ c.in_ok-first.ensures c.if-branch-ne32.false c.in_ok-parameters.ensures.reads.0 f1 f2
          (ap (λ k. uses_at k (length C.rows + 2) bs c.body.new.self.at) (sym first) ∙ (ap (λ n. uses_at (get_or c.in_ok-parameters.field-0 0 0) (n + 2) bs c.body.new.self.at) (sym c.len.ensures) ∙ P.reads.0))
          (ap (λ k. uses_at k (length C.rows + 2) bs c.uses.new.self.at) (sym second) ∙ (ap (λ n. uses_at (get_or c.in_ok-parameters.field-0 1 0) (n + 2) bs c.uses.new.self.at) (sym c.len-2.ensures) ∙ R.reads.0))
          c.in_err-asked.field-0.0
          (subst (λ g. Declines (after (expr C 100 bs g c.uses-2.new.self.at) (λ a q. judged (Clash start) (same (used c.in_ok-results.results) a.types) a q)) c.in_err-asked.field-0.0) scope c.in_err-asked.ensures.reads));
    }
