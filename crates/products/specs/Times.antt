-- The operator times: multiplication, from 1.
use Rattle.std.specs.Prelude.{pos}
use Rattle.numbers.specs.declared.integer.Integer.{Integer}
use Rattle.numbers.specs.Integers.{judged}
use Rattle.arithmetic.specs.Arithmetic.{product}
use Rattle.merging.specs.Operators.{Definition}
use Rattle.merging.specs.Operations.{combining}

-- Times of no parts is 1.
abbrev pub times : Definition Integer Integer Integer
times = combining (judged (pos 1)) product
