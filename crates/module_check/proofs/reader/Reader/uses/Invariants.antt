use Rattle.std.proofs.Common.{◌≡◌, ◌+◌, ◌≤◌, length, take, replicate}
use Rattle.verdict.specs.Bodies.{use_at}
use Rattle.verdict.proofs.Each.{Going}
use Rattle.module_check.proofs.reader.Reader.uses.Given as goal

-- The numbers read so far stand in front.
abbrev pub invariant-loop-number : goal.invariant-loop-number
invariant-loop-number l =
    (l.self.nodes ≡ l.initial.self.nodes) × (l.initial.self.at ≤ l.self.at) × (length l.number-items ≡ l.n)
    × Going (λ (_ : Unit {0}) q. use_at (l.rows + 2) l.bytes q) (replicate l.n tt) l.initial.self.at l.number-index (take l.number-index l.number-items) l.self.at
