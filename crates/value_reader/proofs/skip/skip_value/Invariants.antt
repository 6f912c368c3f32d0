use Rattle.std.proofs.Common.{◌≡◌, ℕ, ◌+◌, ◌-◌, ◌≤◌, length}
use Rattle.value_reader.specs.Skipping.{passed, skipped}
use Rattle.value_reader.proofs.skip.skip_value.Given as goal

abbrev pub invariant-loop-owed : goal.invariant-loop-owed
invariant-loop-owed l =
    (l.owed ≤ length l.bytes + 1)
    × ((room : ℕ) × (length l.bytes ≤ l.end + room) × (passed room l.bytes l.end l.owed ≡ skipped l.bytes l.at))

abbrev pub decreases-loop-owed : goal.decreases-loop-owed
decreases-loop-owed l = length l.bytes - l.end
