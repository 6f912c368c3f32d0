-- How a value is passed over without its type: the heads of its records say how long they are and how many values
-- stand in them.
use Rattle.std.specs.Prelude.{◌≡◌, ℕ, zero, suc, ◌+◌, ◌-◌, cond, ◌&&◌, List, ◌++◌, length, drop, Some, None, Option, ◌==◌, nat_le, nat_lt}
use Rattle.values.specs.Values.{Value, size, encode}
use Rattle.values.specs.Trees.{Tree, Of}
use Rattle.value_reader.specs.declared.skip.Head.{Head}
use Rattle.value_reader.specs.Bytes.{byte, pair_at}

-- How many bytes the kind and the body take, by the kind; 0 where the kind is unknown.
abbrev pub long_of : ℕ → ℕ
long_of kind = cond (kind == 0x51) 5 (cond (kind == 0x53) 7 (cond (nat_le 0x50 kind && nat_le kind 0x55) 2 0))

-- How many values stand in the record at an offset.
abbrev pub inner_at : List ℕ → ℕ → ℕ
inner_at bs at =
    cond (byte bs at == 0x53) (pair_at bs (at + 5))
    (cond (byte bs at == 0x54) (byte bs (at + 1))
    (cond (byte bs at == 0x55) 1 0))

-- The head of the record at an offset, if there is one of a known kind with a whole body.
abbrev pub head_at : List ℕ → ℕ → Option Head
head_at bs at =
    cond (nat_lt at (length bs) && (nat_lt 0 (long_of (byte bs at)) && nat_le (at + long_of (byte bs at)) (length bs)))
    (Some (record { long = long_of (byte bs at); inner = inner_at bs at }))
    None

-- A record takes one from the number of records owed, and adds the values that stand in it; it has a head, and at
-- least as many bytes follow as records are owed then.
abbrev pub stepped : (ℕ → ℕ → Option ℕ) → Option Head → List ℕ → ℕ → ℕ → Option ℕ
stepped go None bs at owed = None
stepped go (Some h) bs at owed = cond (nat_le (owed + h.inner) (length bs - (at + h.long))) (go (at + h.long) (owed + h.inner)) None

-- Records are passed until none is owed.
unfoldable pub passed : ℕ → List ℕ → ℕ → ℕ → Option ℕ
passed room bs at zero = Some at
passed zero bs at (suc owed) = None
passed (suc room) bs at (suc owed) = stepped (passed room bs) (head_at bs at) bs at owed

-- Where the record at an offset ends with all that stands in it. No more records fit than there are bytes.
unfoldable pub skipped : List ℕ → ℕ → Option ℕ
skipped bs at = passed (length bs) bs at 1

-- Where a value of any type stands, its end is answered.
abbrev pub Skips : List ℕ → ℕ → Option ℕ → Type 0
Skips bs at r = (t : Tree) (v : Value) (rest : List ℕ) → Of t v → drop at bs ≡ encode v ++ rest → r ≡ Some (at + size v)
