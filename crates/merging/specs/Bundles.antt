-- What a bundle of six operators means, by the name of each.
use Rattle.std.specs.Prelude.{List, Result}
use Rattle.numbers.specs.declared.integer.Integer.{Integer}
use Rattle.numbers.specs.declared.boolean.Boolean.{Boolean}
use Rattle.merging.specs.declared.orders.TooManyParts.{TooManyParts}
use Rattle.merging.specs.declared.bundle.IntegerMerge.{IntegerMerge}
use Rattle.merging.specs.declared.bundle.IntegerMerge.TheVariants.{Plus, Times, Max, Min}
use Rattle.merging.specs.declared.bundle.BooleanMerge.{BooleanMerge}
use Rattle.merging.specs.declared.bundle.BooleanMerge.TheVariants.{And, Or}
use Rattle.merging.specs.Merged.{unless_many}

-- What each of the six operators means for a list of at most `most` parts.
pub record Merges : Type 0 where
  pub plus : List Integer → Integer
  pub times : List Integer → Integer
  pub max : List Integer → Integer
  pub min : List Integer → Integer
  pub both : List Boolean → Boolean
  pub either : List Boolean → Boolean

-- The meaning of the operator on integers that is named.
abbrev pub integers_by : Merges → IntegerMerge → List Integer → Integer
integers_by m Plus = m.plus
integers_by m Times = m.times
integers_by m Max = m.max
integers_by m Min = m.min

-- The meaning of the operator on booleans that is named.
abbrev pub booleans_by : Merges → BooleanMerge → List Boolean → Boolean
booleans_by m And = m.both
booleans_by m Or = m.either

-- What a merge of integers by name answers.
abbrev pub merged_by : Merges → IntegerMerge → List Integer → Result Integer TooManyParts
merged_by m k ps = unless_many (integers_by m k) ps

-- What a merge of booleans by name answers.
abbrev pub merged_booleans_by : Merges → BooleanMerge → List Boolean → Result Boolean TooManyParts
merged_booleans_by m k ps = unless_many (booleans_by m k) ps
