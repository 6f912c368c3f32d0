use Rattle.module_check.proofs.Bodies.{body_taken}
use Rattle.module_check.proofs.reader.Reader.body.Goals as goal

pub returns-clause-reads : goal.returns-clause-reads
returns-clause-reads g c =
    body_taken g.row.N c.args.bytes.now c.args.self.now.at c.saturating_sub.result _ c.saturating_sub.ensures c.if-saturating_sub.false c.copy_from_slice.ensures.after
