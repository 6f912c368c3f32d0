use Rattle.std.proofs.Common.{◌≤◌, length, Err, sym, refl, subst, inr, arith}
use Rattle.std.proofs.lemmas.Result.{err_from_is_err_and}
use Rattle.verdict.specs.Exactness.{Bytes}
use Rattle.verdict.proofs.Exact.{exact}
use Rattle.module_check.specs.Reading.{Declines}
use Rattle.module_check.specs.Checking.{Checked}
use Rattle.module_check.proofs.Meaning.{few_bytes, passed, meaning}
use Rattle.module_check.proofs.filling.check.Goals as goal

pub returns-in_err-module-clause-means : goal.returns-in_err-module-clause-means
returns-in_err-module-clause-means c =
    let bs = c.args.bytes.now in
    let bytes : Bytes bs = λ i. omega (arith, c.type_inv.bytes i) in
    let few : length bs ≤ 16384 = omega arith in
    let p = c.args.program.now in
    let w = c.in_err-module.field-0.0 in
    let e = err_from_is_err_and c.from_residual.result c.from_residual.ensures.1 in
    let all : Checked bs p p (Err w) = (refl, subst (λ o. Declines o w) (sym (few_bytes bs few)) c.in_err-module.ensures) in
    rw (e.1, e.2) (meaning bs bytes p p (Err w) all)

-- The holder has the tables of a well-typed module.
pub invariant_of-drop : goal.invariant_of-drop
invariant_of-drop c =
    let bs = c.args.bytes.now in
    let bytes : Bytes bs = λ i. omega (arith, c.type_inv.bytes i) in
    let few : length bs ≤ 16384 = omega arith in
    let M = c.in_ok-module.ensures in
    record { lawful = ∣ inr (M.0, (passed bs bytes few M.0 M.1 M.2).1, M.3) ∣₁ }

pub returns-clause-means : goal.returns-clause-means
returns-clause-means c =
    let bs = c.args.bytes.now in
    let bytes : Bytes bs = λ i. omega (arith, c.type_inv.bytes i) in
    let few : length bs ≤ 16384 = omega arith in
    let M = c.in_ok-module.ensures in
    let v = passed bs bytes few M.0 M.1 M.2 in
    (M.0, (exact bs bytes M.0).0 (length bs, v.0), M.3)
