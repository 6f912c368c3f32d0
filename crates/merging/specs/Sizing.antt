-- Facts that every tally of parts has.
use Rattle.std.specs.Prelude.{ℕ, ◌+◌, ◌≤◌}
use Rattle.merging.specs.Operators.{Definition, Sized, sized_start, sized_tally, sized_join, most}

-- `is n t` holds of the start and of each part's tally, and joins keep it.
pub record Kept {P T C : Type 0} (d : Definition P T C) (is : ℕ → T → Type 0) : Type 0 where
  pub start_is : is 0 d.start
  pub tally_is : (p : P) → is 1 (d.tally p)
  pub join_is : (m n : ℕ) (a b : T) → is m a → is n b → m + n ≤ most → is (m + n) (d.join a b)

-- What is kept holds of every tally.
pub every_sized : {P T C : Type 0} {d : Definition P T C} {is : ℕ → T → Type 0} → Kept d is → {n : ℕ} {t : T} → Sized d n t → is n t
every_sized k sized_start = k.start_is
every_sized k (sized_tally p) = k.tally_is p
every_sized k (sized_join m n a b s u h) = k.join_is m n a b (every_sized k s) (every_sized k u) h
