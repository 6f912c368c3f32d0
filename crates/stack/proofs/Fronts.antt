-- Heads of composed values: that they begin the values' bytes, and that these are the bytes laid.
use Rattle.std.proofs.Common.{ℕ, ◌++◌, refl, ap}
use Rattle.numbers.specs.declared.number.Number.{Number}
use Rattle.values.specs.Values.{encode, encode_row}
use Rattle.stack.specs.declared.heads.Head.{Head}
use Rattle.stack.specs.declared.heads.Head.TheVariants.{Array, Record, Union}
use Rattle.stack.specs.Heads.{array_head, record_head, HeadsArray, HeadsRecord, HeadsUnion, HeadsValues}

pub array_heads : (low : Number) (count : ℕ) → HeadsArray low count
unfolding encode
array_heads low count vs e = ap (λ n. array_head low n ++ encode_row vs) e

pub record_heads : (count : ℕ) → HeadsRecord count
unfolding encode
record_heads count vs e = ap (λ n. record_head n ++ encode_row vs) e

pub union_heads : (tag : ℕ) → HeadsUnion tag
unfolding encode
union_heads tag v = refl

pub heads_values : (head : Head) → HeadsValues head
heads_values (Array low count) = array_heads low count
heads_values (Record count) = record_heads count
heads_values (Union tag) = union_heads tag
