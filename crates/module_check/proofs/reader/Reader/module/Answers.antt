use Rattle.std.proofs.Common.{◌≡◌, ◌≤◌, [], get_or, sym, ap, ◌∙◌, arith, rules}
use Rattle.values.specs.Tables.{rows_of}
use Rattle.verdict.specs.Outcomes.{first_at, whole, body}
use Rattle.verdict.specs.Modules.{rows_at, functions_at}
use Rattle.module_check.proofs.ModuleFacts.{module_reads}
use Rattle.module_check.proofs.reader.Reader.module.Goals as goal

pub returns : goal.returns
returns c =
    let bs = c.args.bytes.now in
    let R = c.in_ok-rows-2.ensures in
    let F = c.in_ok-functions.ensures in
    let rs = rows_of c.rows.new.tables.types in
    let front : c.args.self.now.at ≡ 0 = search rules in
    let no_rows : rows_of c.args.tables.now.types ≡ [] = search rules in
    let first : get_or c.in_ok-rows.field-0 0 0 ≡ body bs 0 1 = ap (λ ys. get_or ys 0 0) c.in_ok-rows.ensures.reads.1 ∙ ap (λ p. body bs p 1) front in
    let second : get_or c.in_ok-rows.field-0 1 0 ≡ body bs 0 2 = ap (λ ys. get_or ys 1 0) c.in_ok-rows.ensures.reads.1 ∙ ap (λ p. body bs p 2) front in
    let some : 1 ≤ get_or c.in_ok-rows.field-0 1 0 = search rules in
    let few : get_or c.in_ok-rows.field-0 1 0 ≤ 60 = search rules in (
      record { rows = rs; functions = F.reads.0 },
      c.functions.new.self.at,
      module_reads bs _ _ _ rs F.reads.0 _ _ (ap (first_at bs) (sym front) ∙ c.in_ok-first.ensures) c.if-branch-ne1.false (ap (whole 2 bs) (sym front) ∙ c.in_ok-rows.ensures.reads.0) (omega (arith, first)) (omega (arith, second)) (omega (arith, second))
          (ap (λ n. rows_at n bs [] c.body.new.self.at) (sym first) ∙ (ap (λ z. rows_at (get_or c.in_ok-rows.field-0 0 0) bs z c.body.new.self.at) (sym no_rows) ∙ R.reads))
          (ap (λ n. functions_at n rs bs [] c.rows.new.self.at) (sym second) ∙ F.reads.1) c.if-self-bytes.false,
      record { rows_are = ap rows_of F.types; functions_are = F.reads.2; nodes_are = F.reads.3 },
    )
