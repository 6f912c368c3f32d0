-- What the standard operators mean.
use Rattle.merging.specs.Operators.{meaning}
use Rattle.merging.specs.Bundles.{Merges}
use Rattle.sums.specs.Plus.{plus}
use Rattle.products.specs.Times.{times}
use Rattle.choices.specs.Extremes.{greatest_of, least_of}
use Rattle.choices.specs.Truths.{all_of, some_of}

-- Each of the six by the meaning of its own definition.
abbrev pub standard : Merges
standard = record {
  plus = meaning plus;
  times = meaning times;
  max = meaning greatest_of;
  min = meaning least_of;
  both = meaning all_of;
  either = meaning some_of;
}
