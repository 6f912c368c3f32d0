use Rattle.std.proofs.Common.{is_ok, sym, ap, ◌∙◌}
use Rattle.std.proofs.lemmas.Result.{err_from_is_err_and}
use Rattle.values.specs.Tables.{rows_of}
use Rattle.module_check.proofs.ModuleFacts.{row_pushed, rowing_more, rowing_fails, rowing_done}
use Rattle.module_check.proofs.reader.Reader.rows.Goals as goal

pub returns-in_err-row-clause-reads : goal.returns-in_err-row-clause-reads
returns-in_err-row-clause-reads c =
    let p = err_from_is_err_and c.from_residual.result c.from_residual.ensures.1 in
    let I = c.loop.invariant in
    let B = c.in_err-row.ensures in
    rw (p.1, p.2) (rowing_fails c.args.count c.args.bytes.now (rows_of c.args.tables.now.types) c.args.self.now.at c.loop.counter _ _ _ I.2 c.loop-test.true B.reads)

pub loop-preserved : goal.loop-preserved
loop-preserved c =
    let I = c.loop.invariant in
    let R = c.in_ok-row.ensures in
    let P = c.push.ensures in (
      R.kept ∙ I.0,
      I.1,
      rowing_more c.args.count c.args.bytes.now (rows_of c.args.tables.now.types) c.args.self.now.at c.loop.counter _ _ _ _ c.in_ok-row.row I.2 c.loop-test.true R.reads (row_pushed _ _ _ c.push.result P (sym c.map_err.ensures.variant ∙ ap is_ok c.in_ok-map_err.was)),
    )

pub returns-clause-reads : goal.returns-clause-reads
returns-clause-reads c =
    let I = c.loop.invariant in
    rowing_done c.args.count c.args.bytes.now (rows_of c.args.tables.now.types) c.args.self.now.at c.loop.counter _ _ I.2 c.loop-test.false
