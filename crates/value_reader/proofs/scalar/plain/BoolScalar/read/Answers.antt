use Rattle.std.proofs.Common.{◌≡◌, true, false, get_or, sym, ap, ◌∙◌, rules}
use Rattle.value_reader.proofs.Finding.{truth_unbegun, truth_found, alone, parses_truth, parses_no_truth}
use Rattle.value_reader.proofs.scalar.plain.BoolScalar.read.Goals as goal

pub returns-in_err-body : goal.returns-in_err-body
returns-in_err-body c = rw c.from_residual.ensures (truth_unbegun c.args.bytes.now c.args.at c.in_err-body.ensures)

pub returns-in-0 : goal.returns-in-0
returns-in-0 c =
    let body = c.in_ok-body.ensures in
    truth_found c.args.bytes.now c.args.at body.0 _ (parses_truth false _ (sym body.1 ∙ alone _ 0 c.in-len1.len_at_least c.in-len1.len_below c.in-0.is))

pub returns-in-1 : goal.returns-in-1
returns-in-1 c =
    let body = c.in_ok-body.ensures in
    truth_found c.args.bytes.now c.args.at body.0 _ (parses_truth true _ (sym body.1 ∙ alone _ 1 c.in-len1.len_at_least c.in-len1.len_below c.in-1.is))

pub returns-in_default-truth : goal.returns-in_default-truth
returns-in_default-truth c =
    let body = c.in_ok-body.ensures in
    let not_zero : get_or c.in_ok-body.field-0.now 0 0 ≡ 0 → ⊥ = search rules in
    let not_one : get_or c.in_ok-body.field-0.now 0 0 ≡ 1 → ⊥ = search rules in
    truth_found c.args.bytes.now c.args.at body.0 _
    (parses_no_truth _ (λ e. not_zero (ap (λ t. get_or t 0 0) (body.1 ∙ e))) (λ e. not_one (ap (λ t. get_or t 0 0) (body.1 ∙ e))))
