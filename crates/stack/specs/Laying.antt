-- What is written to a store, byte by byte. That bytes are laid at the top, or did not fit, is `Laid` of the value
-- reader; here are the copies and removals of what stands on the store already.
use Rattle.std.specs.Prelude.{◌≡◌, ℕ, ◌+◌, ◌-◌, ◌≤◌, List, ◌++◌, length, take, drop, None, Option}
use Rattle.value_reader.specs.Scalars.{Laid}

-- The store with the bytes xs over what stood from an offset on.
abbrev pub over : List ℕ → ℕ → List ℕ → List ℕ
over s at xs = take at s ++ (xs ++ drop (at + length xs) s)

-- The bytes from an offset to an end.
abbrev pub stretch : List ℕ → ℕ → ℕ → List ℕ
stretch s from end = take (end - from) (drop from s)

-- A stretch below the top is laid at the top, if it fits; what is no stretch below the top is not copied, as what does
-- not fit.
pub record Copied (before after : List ℕ) (top from end : ℕ) (r : Option ℕ) : Type 0 where
  pub below : from ≤ end → end ≤ top → Laid before after top (stretch before from end) r
  pub beyond : (from ≤ end → end ≤ top → ⊥) → (r ≡ None) × (after ≡ before)

-- The bytes up to the top move down to a base: they stand over what stood there, and the top falls as far; every
-- other byte is unchanged. Where base, from, top and the end of the store are not in this order, nothing moves.
pub record Removed (before after : List ℕ) (base from top r : ℕ) : Type 0 where
  pub within : base ≤ from → from ≤ top → top ≤ length before → (r ≡ base + (top - from)) × (after ≡ over before base (stretch before from top))
  pub beyond : (base ≤ from → from ≤ top → top ≤ length before → ⊥) → (r ≡ top) × (after ≡ before)
