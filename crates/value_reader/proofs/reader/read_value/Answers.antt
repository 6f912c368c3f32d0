use Rattle.std.proofs.Common.{◌∙◌, arith}
use Rattle.values.specs.Tables.{rows_of}
use Rattle.value_reader.proofs.Accepting.{read_there, read_missing, number_exact, exact_at}
use Rattle.value_reader.proofs.reader.read_value.Goals as goal

pub returns-then-number-len : goal.returns-then-number-len
returns-then-number-len c =
    let e = read_missing (rows_of c.args.types.now) c.args.number c.args.bytes.now c.args.at (omega (arith, c.if-number-len.true, c.len.ensures)) in
    record { reads = e; exact = exact_at _ _ _ e (number_exact (rows_of c.args.types.now) c.args.number c.args.bytes.now c.args.at) }

pub returns : goal.returns
returns c =
    let e = c.value.ensures ∙ read_there (rows_of c.args.types.now) c.args.number c.args.bytes.now c.args.at (omega (arith, c.if-number-len.false, c.len.ensures)) in
    record { reads = e; exact = exact_at _ _ _ e (number_exact (rows_of c.args.types.now) c.args.number c.args.bytes.now c.args.at) }
