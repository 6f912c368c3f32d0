-- Orders and groupings of a merge, and the statement that each gives the meaning of the list.
use Rattle.std.specs.Prelude.{◌≡◌, ◌≤◌, List, [], ◌∷◌, ◌++◌, length}
use Rattle.merging.specs.Operators.{Definition, most, meaning}

-- A grouping of parts: each leaf is a start or a part, and each fork a join.
pub data Tree (Part : Type 0) : Type 0 where
  start_leaf : Tree Part
  part_leaf : Part → Tree Part
  fork : Tree Part → Tree Part → Tree Part

-- The parts at the leaves, from left to right.
abbrev pub leaves : {Part : Type 0} → Tree Part → List Part
leaves start_leaf = []
leaves (part_leaf p) = p ∷ []
leaves (fork l r) = leaves l ++ leaves r

-- The tally at the root of a tree.
abbrev pub root : {Part Tally Closed : Type 0} → Definition Part Tally Closed → Tree Part → Tally
root d start_leaf = d.start
root d (part_leaf p) = d.tally p
root d (fork l r) = d.join (root d l) (root d r)

-- The same members, each as often, in any order.
pub data Reordered {Part : Type 0} : List Part → List Part → Type 0 where
  none : Reordered [] []
  keep : {x : Part} {xs ys : List Part} → Reordered xs ys → Reordered (x ∷ xs) (x ∷ ys)
  swap : {x y : Part} {xs : List Part} → Reordered (x ∷ (y ∷ xs)) (y ∷ (x ∷ xs))
  twice : {xs ys zs : List Part} → Reordered xs ys → Reordered ys zs → Reordered xs zs

-- Every tree over at most `most` parts in any order, with any number of starts, closes to the meaning of the list.
abbrev pub EveryGrouping : {Part Tally Closed : Type 0} → Definition Part Tally Closed → Type 0
EveryGrouping {Part} d = (t : Tree Part) (ps : List Part) → Reordered (leaves t) ps → length ps ≤ most → d.close (root d t) ≡ meaning d ps
