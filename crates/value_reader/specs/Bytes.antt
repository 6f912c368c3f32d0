-- Numbers in bytes. A definition judges lists of any numbers, so where one number is made of several bytes, it asks
-- that each is a byte, below 256.
use Rattle.std.specs.Prelude.{ℕ, ◌+◌, ◌*◌, Bool, ◌&&◌, List, ℤ, nat_lt, slice_index}
use Rattle.std.specs.Int.{w32}
use Rattle.std.proofs.Common.{to_z}

-- The byte at an offset.
abbrev pub byte : List ℕ → ℕ → ℕ
byte bs at = slice_index bs at

-- The number of two bytes, the high byte first.
abbrev pub pair_at : List ℕ → ℕ → ℕ
pair_at bs at = byte bs at * 256 + byte bs (at + 1)

-- The number of four bytes in two's complement, the high byte first.
abbrev pub word_at : List ℕ → ℕ → ℤ
word_at bs at = to_z w32 (byte bs at * 16777216 + byte bs (at + 1) * 65536 + byte bs (at + 2) * 256 + byte bs (at + 3))

-- Whether these are bytes.
abbrev pub two_fit : List ℕ → ℕ → Bool
two_fit bs at = nat_lt (byte bs at) 256 && nat_lt (byte bs (at + 1)) 256

abbrev pub four_fit : List ℕ → ℕ → Bool
four_fit bs at = two_fit bs at && (nat_lt (byte bs (at + 2)) 256 && nat_lt (byte bs (at + 3)) 256)
