use Rattle.std.proofs.Common.{◌+◌, ◌<◌, sym, ◌∙◌, arith, rules}
use Rattle.std.proofs.lemmas.Result.{err_from_is_err_and}
use Rattle.values.specs.Tables.{rows_of}
use Rattle.values.specs.Rows.{used, table}
use Rattle.value_reader.specs.Bytes.{byte}
use Rattle.value_reader.proofs.Steps.{nth_below, element_lower, repeated_next, reads_fails, reads_next, reads_none, union_some, union_none, array_row, record_row, union_row, row_found, row_missed, boolean_row, integer_row}
use Rattle.value_reader.proofs.reader.+parts_of_values.Goals as goal

-- Reader::values

pub Reader::values-loop-preserved : goal.Reader::values-loop-preserved
Reader::values-loop-preserved t c = repeated_next c.args.count c.loop.counter _ c.loop.end _ c.loop-test.true c.loop.invariant _ c.in_ok-end.ensures

-- Parts::values

pub Parts::values-returns-in_err-end : goal.Parts::values-returns-in_err-end
Parts::values-returns-in_err-end t c =
    let p = err_from_is_err_and c.from_residual.result c.from_residual.ensures.1 in
    rw (p.1, p.2) (reads_fails _ _ c.loop-number.number-index _ c.loop-number.end _ c.loop-number-test.true c.loop-number.invariant _ c.in_err-end.ensures)

pub Parts::values-loop-number-preserved : goal.Parts::values-loop-number-preserved
Parts::values-loop-number-preserved t c =
    reads_next _ _ c.loop-number.number-index _ c.loop-number.end _ c.loop-number-test.true c.loop-number.invariant _ c.in_ok-end.ensures

pub Parts::values-returns : goal.Parts::values-returns
Parts::values-returns t c = sym (reads_none _ _ c.loop-number.number-index _ c.loop-number.end c.loop-number-test.false) ∙ c.loop-number.invariant

-- Parts::union

pub Parts::union-invariant_of-value : goal.Parts::union-invariant_of-value
Parts::union-invariant_of-value t c =
    let own = c.args.self.now in
    let lower : c.in-Some-get.number < own.whole.number = nth_below own.whole.number (used own.members) (byte own.whole.source.bytes.now (c.args.at + 1)) c.in-Some-get.number own.lower (sym c.in-Some-get.ensures) in
    omega (arith, own.whole.declared)

pub Parts::union-value-requires : goal.Parts::union-value-requires
Parts::union-value-requires t c =
    let own = c.args.self.now in
    let lower : c.in-Some-get.number < own.whole.number = nth_below own.whole.number (used own.members) (byte own.whole.source.bytes.now (c.args.at + 1)) c.in-Some-get.number own.lower (sym c.in-Some-get.ensures) in
    search rules

pub Parts::union-returns-in-Some-get : goal.Parts::union-returns-in-Some-get
Parts::union-returns-in-Some-get t c =
    let own = c.args.self.now in
    union_some (table (rows_of own.whole.source.types.now)) (used own.members) own.whole.source.bytes.now c.args.at c.in_ok-end.field-0
    c.in_ok-end.ensures.opens c.in_default.is c.in-Some-get.number c.value.result c.in-Some-get.ensures c.value.ensures

pub Parts::union-returns-in-None : goal.Parts::union-returns-in-None
Parts::union-returns-in-None t c =
    let own = c.args.self.now in
    union_none (table (rows_of own.whole.source.types.now)) (used own.members) own.whole.source.bytes.now c.args.at c.in_ok-end.field-0
    c.in_ok-end.ensures.opens c.in_default.is c.in-None.ensures

-- Reader::value

pub Reader::value-invariant_of-array : goal.Reader::value-invariant_of-array
Reader::value-invariant_of-array t c =
    let own = c.args.self.now in
    let lower = element_lower (rows_of own.source.types.now) own.number c.in-Some-Array.number own.source.types.now.lawful (rw c.in-Some-Array.field-0-is at c.in-Some-Array.ensures) in
    omega (arith, own.declared)

pub Reader::value-array-requires : goal.Reader::value-array-requires
Reader::value-array-requires t c =
    let own = c.args.self.now in
    let lower = element_lower (rows_of own.source.types.now) own.number c.in-Some-Array.number own.source.types.now.lawful (rw c.in-Some-Array.field-0-is at c.in-Some-Array.ensures) in
    search rules

pub Reader::value-invariant_of-record : goal.Reader::value-invariant_of-record
Reader::value-invariant_of-record t c =
    let own = c.args.self.now in
    record { lower = (row_found (rows_of own.source.types.now) own.number _ own.source.types.now.lawful (rw c.in-Some-Record.field-0-is at c.in-Some-Record.ensures)).1 }

pub Reader::value-invariant_of-union : goal.Reader::value-invariant_of-union
Reader::value-invariant_of-union t c =
    let own = c.args.self.now in
    record { lower = (row_found (rows_of own.source.types.now) own.number _ own.source.types.now.lawful (rw c.in-Some-Union.field-0-is at c.in-Some-Union.ensures)).1 }

pub Reader::value-returns-in-Some-Array : goal.Reader::value-returns-in-Some-Array
Reader::value-returns-in-Some-Array t c =
    let own = c.args.self.now in
    array_row (rows_of own.source.types.now) own.number own.source.bytes.now c.args.at c.array.result own.source.types.now.lawful c.in-Some-Array.number
    (rw c.in-Some-Array.field-0-is at c.in-Some-Array.ensures) c.array.ensures

pub Reader::value-returns-in-Some-Record : goal.Reader::value-returns-in-Some-Record
Reader::value-returns-in-Some-Record t c =
    let own = c.args.self.now in
    record_row (rows_of own.source.types.now) own.number own.source.bytes.now c.args.at c.record.result own.source.types.now.lawful c.in-Some-Record.members
    (rw c.in-Some-Record.field-0-is at c.in-Some-Record.ensures) c.record.ensures

pub Reader::value-returns-in-Some-Union : goal.Reader::value-returns-in-Some-Union
Reader::value-returns-in-Some-Union t c =
    let own = c.args.self.now in
    union_row (rows_of own.source.types.now) own.number own.source.bytes.now c.args.at c.union.result own.source.types.now.lawful c.in-Some-Union.members
    (rw c.in-Some-Union.field-0-is at c.in-Some-Union.ensures) c.union.ensures

pub Reader::value-returns-in-None : goal.Reader::value-returns-in-None
Reader::value-returns-in-None t c =
    let own = c.args.self.now in
    boolean_row (rows_of own.source.types.now) own.number own.source.bytes.now c.args.at c.boolean.result c.if-whole-eq0.true c.boolean.ensures

pub Reader::value-returns-in-None-2 : goal.Reader::value-returns-in-None-2
Reader::value-returns-in-None-2 t c =
    let own = c.args.self.now in
    integer_row (rows_of own.source.types.now) own.number own.source.bytes.now c.args.at c.integer.result
    (row_missed (rows_of own.source.types.now) own.number own.declared c.in-None.ensures) c.if-whole-eq0.false c.integer.ensures
