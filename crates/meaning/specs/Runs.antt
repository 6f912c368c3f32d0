-- Runs over any six operators, and runs under an order and grouping.
use Rattle.std.specs.Prelude.{ℕ, List, map}
use Rattle.numbers.specs.declared.number.Number.{Number}
use Rattle.numbers.specs.declared.integer.Integer.{Integer}
use Rattle.numbers.specs.declared.boolean.Boolean.{Boolean}
use Rattle.merging.specs.Operators.{Definition}
use Rattle.merging.specs.Trees.{Tree, leaves, root, Reordered}
use Rattle.merging.specs.Bundles.{Merges, integers_by, booleans_by}
use Rattle.values.specs.Values.{Value, integer_value, boolean_value}
use Rattle.language.specs.declared.merge.Merge.{Merge}
use Rattle.language.specs.declared.merge.Merge.TheVariants.{Collect, Integers, Booleans}
use Rattle.meaning.specs.Operations.{as_integer, as_boolean}
use Rattle.meaning.specs.Evaluation.{Merging, array_from}

-- What a forall makes of its parts: an array from low on, or what an operator means for them.
unfoldable pub merge_by : Merges → Merge → (low : Number) → List Value → Value
merge_by merges (Collect t) low vs = array_from low vs
merge_by merges (Integers k) low vs = integer_value (integers_by merges k (map as_integer vs))
merge_by merges (Booleans k) low vs = boolean_value (booleans_by merges k (map as_boolean vs))

-- Every forall of a run merges with the same six operators.
abbrev pub merged : Merges → Merging
merged merges left = merge_by merges

-- The definitions of six operators, each with tallies of its own.
pub record Definitions (P T X N A O : Type 0) : Type 0 where
  pub plus : Definition Integer P Integer
  pub times : Definition Integer T Integer
  pub max : Definition Integer X Integer
  pub min : Definition Integer N Integer
  pub both : Definition Boolean A Boolean
  pub either : Definition Boolean O Boolean

abbrev pub six : {P T X N A O : Type 0} → Definition Integer P Integer → Definition Integer T Integer → Definition Integer X Integer
    → Definition Integer N Integer → Definition Boolean A Boolean → Definition Boolean O Boolean → Definitions P T X N A O
six p t x n a o = record { plus = p; times = t; max = x; min = n; both = a; either = o }

-- For each forall that a run meets, named by the steps left at its beginning, a tree over its parts in any order.
pub record Grouping (Part : Type 0) : Type 0 where
  pub tree : (left : ℕ) (parts : List Part) → Tree Part
  pub orders : (left : ℕ) (parts : List Part) → Reordered (leaves (tree left parts)) parts

-- An order and grouping of a run: trees for those of its foralls that merge integers, and for those that merge booleans.
pub record Groupings : Type 0 where
  pub integers : Grouping Integer
  pub booleans : Grouping Boolean

-- The root of the tree, closed, in place of the meaning.
abbrev pub closed_under : {Part Tally : Type 0} → Definition Part Tally Part → Grouping Part → (left : ℕ) → List Part → Part
closed_under d g left parts = d.close (root d (g.tree left parts))

abbrev pub grouped : {P T X N A O : Type 0} → Definitions P T X N A O → Groupings → (left : ℕ) → Merges
grouped d g left =
    record {
      plus = closed_under d.plus g.integers left;
      times = closed_under d.times g.integers left;
      max = closed_under d.max g.integers left;
      min = closed_under d.min g.integers left;
      both = closed_under d.both g.booleans left;
      either = closed_under d.either g.booleans left;
    }

-- Every forall of a run merges under its own tree.
abbrev pub merged_under : {P T X N A O : Type 0} → Definitions P T X N A O → Groupings → Merging
merged_under d g left = merge_by (grouped d g left)
