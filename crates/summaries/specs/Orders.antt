-- What merging in three orders comes to.
use Rattle.std.specs.Prelude.{◌≡◌, ◌<◌, ◌≤◌, List, [], ◌∷◌, length, pos, fold, Result, MatchResult}
use Rattle.numbers.specs.declared.integer.Integer.{Integer}
use Rattle.numbers.specs.Integers.{judged}
use Rattle.arithmetic.specs.Arithmetic.{sum}
use Rattle.merging.specs.Operators.{Definition, most, meaning}
use Rattle.merging.specs.declared.orders.TooManyParts.{TooManyParts}
use Rattle.summaries.specs.declared.ThreeOrders.{ThreeOrders}

abbrev pub zero : Integer
zero = judged (pos 0)

-- 0 + each reading in turn, from the first on, and from the last on.
abbrev pub from_first : List Integer → Integer
from_first ps = fold sum zero ps

unfoldable pub from_last : List Integer → Integer
from_last [] = zero
from_last (p ∷ ps) = sum (from_last ps) p

-- All three are one integer.
abbrev pub Agrees : ThreeOrders → Type 0
Agrees t = (t.front ≡ t.back) × (t.front ≡ t.halves)

-- Up to 32,768 readings each order gives the operator's meaning; more are refused.
abbrev pub MergedThreeWays : {Tally : Type 0} → Definition Integer Tally Integer → List Integer → Result ThreeOrders TooManyParts → Type 0
MergedThreeWays d ps r =
    MatchResult r
    (λ t. (length ps ≤ most) × (t.front ≡ meaning d ps) × (t.back ≡ meaning d ps) × (t.halves ≡ meaning d ps))
    (λ _. most < length ps)
