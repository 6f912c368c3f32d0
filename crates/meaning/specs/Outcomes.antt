-- How a run, or a part of one, comes out.
use Rattle.std.specs.Prelude.{ℕ, zero, suc, Bool, true, false, nat_le}

-- Finished with a result and what is left of the budget; spent where a step was due beyond the budget; or full where
-- bytes did not fit the store, with what is left of the budget.
pub data Outcome (A : Type 0) : Type 0 where
  finished : A → (left : ℕ) → Outcome A
  spent : Outcome A
  full : (left : ℕ) → Outcome A

-- Below, what comes next is a function, so that only what is met is worked out.

-- Take a step, if one is left.
unfoldable pub step : {A : Type 0} → (budget : ℕ) → (ℕ → Outcome A) → Outcome A
step zero next = spent
step (suc left) next = next left

-- One thing, and then another with its result and what is left.
unfoldable pub after : {A B : Type 0} → Outcome A → (A → ℕ → Outcome B) → Outcome B
after (finished a left) next = next a left
after spent next = spent
after (full left) next = full left

-- Go on if there is room.
unfoldable pub when_room : {A : Type 0} → Bool → (ℕ → Outcome A) → (left : ℕ) → Outcome A
when_room true next left = next left
when_room false next left = full left

-- Lay a result, where `need` is all that then stands above the old top.
unfoldable pub lay : {A : Type 0} → (need free : ℕ) → A → (left : ℕ) → Outcome A
lay need free a left = when_room (nat_le need free) (finished a) left

-- What is finished has P.
unfoldable pub Keeps : {A : Type 0} → (A → Type 0) → Outcome A → Type 0
Keeps P (finished a left) = P a
Keeps P spent = Unit {0}
Keeps P (full left) = Unit {0}
