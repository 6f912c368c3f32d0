use Rattle.std.proofs.lemmas.Result.{err_from_is_err_and}
use Rattle.std.proofs.Common.{◌≡◌}
use Rattle.values.specs.Tables.{rows_of}
use Rattle.value_reader.specs.Reading.{read_whole}
use Rattle.value_reader.proofs.Accepting.{whole_fails, whole_longer, whole_ends, whole_exact, exact_at}
use Rattle.value_reader.proofs.reader.read_whole.Goals as goal

pub returns-in_err-end : goal.returns-in_err-end
returns-in_err-end c =
    let rows = rows_of c.args.types.now in
    let p = err_from_is_err_and c.from_residual.result c.from_residual.ensures.1 in
    let e : c.from_residual.result ≡ read_whole rows c.args.number c.args.bytes.now =
    rw (p.1, p.2) (whole_fails rows c.args.number c.args.bytes.now _ c.in_err-end.ensures.reads) in
    record { reads = e; exact = exact_at _ _ _ e (whole_exact rows c.args.number c.args.bytes.now) }

pub returns-then-end-bytes : goal.returns-then-end-bytes
returns-then-end-bytes c =
    let rows = rows_of c.args.types.now in
    let e = whole_longer rows c.args.number c.args.bytes.now c.in_ok-end.end c.in_ok-end.ensures.reads c.if-end-bytes.true in
    record { reads = e; exact = exact_at _ _ _ e (whole_exact rows c.args.number c.args.bytes.now) }

pub returns : goal.returns
returns c =
    let rows = rows_of c.args.types.now in
    let e = whole_ends rows c.args.number c.args.bytes.now c.in_ok-end.end c.in_ok-end.ensures.reads c.if-end-bytes.false in
    record { reads = e; exact = exact_at _ _ _ e (whole_exact rows c.args.number c.args.bytes.now) }
