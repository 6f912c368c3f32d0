use Rattle.std.proofs.Common.{◌≡◌, ◌+◌, ◌-◌, ◌*◌, drop}
use Rattle.values.specs.Tables.{rows_of}
use Rattle.values.specs.Rows.{used, table, trees_of, tree_at}
use Rattle.value_reader.specs.Reading.{read, reads, repeated}
use Rattle.value_reader.proofs.reader.+parts_of_values.Given as goal

-- The type number falls; the calls for one number are ranked.
abbrev pub decreases-Reader::value : goal.decreases-Reader::value
decreases-Reader::value l = 4 * l.self.now.number + 3

abbrev pub decreases-Reader::array : goal.decreases-Reader::array
decreases-Reader::array l = 4 * l.self.now.number + 5

abbrev pub decreases-Reader::values : goal.decreases-Reader::values
decreases-Reader::values l = 4 * l.self.now.number + 4

abbrev pub decreases-Parts::record : goal.decreases-Parts::record
decreases-Parts::record l = 4 * l.self.now.whole.number + 1

abbrev pub decreases-Parts::values : goal.decreases-Parts::values
decreases-Parts::values l = 4 * l.self.now.whole.number

abbrev pub decreases-Parts::union : goal.decreases-Parts::union
decreases-Parts::union l = 4 * l.self.now.whole.number + 1

-- What is left to read gives what the whole gives.
abbrev pub invariant-Reader::values-loop : goal.invariant-Reader::values-loop
invariant-Reader::values-loop l =
    repeated (l.count - l.counter) (read (tree_at (rows_of l.self.source.types.now) l.self.number) l.self.source.bytes.now) l.end
    ≡ repeated l.count (read (tree_at (rows_of l.self.source.types.now) l.self.number) l.self.source.bytes.now) l.at

abbrev pub invariant-Parts::values-loop-number : goal.invariant-Parts::values-loop-number
invariant-Parts::values-loop-number l =
    reads (trees_of (table (rows_of l.source.types.now)) (drop l.number-index l.number-items)) l.source.bytes.now l.end
    ≡ reads (trees_of (table (rows_of l.source.types.now)) (used l.self.members)) l.source.bytes.now l.at
