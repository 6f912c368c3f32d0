-- What a merge answers.
use Rattle.std.specs.Prelude.{◌≡◌, ◌≤◌, cond, List, length, Ok, Err, Result, nat_le}
use Rattle.merging.specs.declared.orders.TooManyParts.{TooManyParts}
use Rattle.merging.specs.Operators.{Definition, most, meaning}
use Rattle.merging.specs.Trees.{Tree, leaves, root, Reordered}

-- The refusal of more than `most` parts.
abbrev pub too_many : TooManyParts
too_many = record {}

-- The answer of a function on lists for at most `most` parts; more are refused.
abbrev pub unless_many : {Part Closed : Type 0} → (List Part → Closed) → List Part → Result Closed TooManyParts
unless_many f ps = cond (nat_le (length ps) most) (Ok (f ps)) (Err too_many)

-- The meaning of at most `most` parts; more are refused.
abbrev pub merged : {Part Tally Closed : Type 0} → Definition Part Tally Closed → List Part → Result Closed TooManyParts
merged d ps = unless_many (meaning d) ps

-- r is what every tree over these parts, in any order, closes to.
abbrev pub Grouped : {Part Tally Closed : Type 0} → Definition Part Tally Closed → List Part → Result Closed TooManyParts → Type 0
Grouped {Part} d ps r = (t : Tree Part) → Reordered (leaves t) ps → length ps ≤ most → r ≡ Ok (d.close (root d t))
