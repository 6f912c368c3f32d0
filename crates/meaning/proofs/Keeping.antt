-- What holds of every finished outcome, through each way to put outcomes together.
use Rattle.std.proofs.Common.{ℕ, zero, suc, ◌≤◌, Bool, true, false, T, leb, leb→le}
use Rattle.numbers.specs.declared.boolean.Boolean.{Boolean}
use Rattle.numbers.specs.declared.boolean.Boolean.TheVariants as booleans
use Rattle.meaning.specs.Outcomes.{Outcome, finished, spent, full, step, after, when_room, lay, Keeps}
use Rattle.meaning.specs.Evaluation.{branch}

pub finished_keeps : {A : Type 0} (P : A → Type 0) (a : A) (l : ℕ) → P a → Keeps P (finished a l)
unfolding Keeps
finished_keeps P a l h = h

pub spent_keeps : {A : Type 0} (P : A → Type 0) → Keeps P spent
unfolding Keeps
spent_keeps P = tt

pub step_keeps : {A : Type 0} (P : A → Type 0) (b : ℕ) (next : ℕ → Outcome A) → ((l : ℕ) → Keeps P (next l)) → Keeps P (step b next)
unfolding Keeps step
step_keeps P zero next h = tt
step_keeps P (suc l) next h = h l

pub after_keeps : {A B : Type 0} (P : A → Type 0) (Q : B → Type 0) (o : Outcome A) (next : A → ℕ → Outcome B)
    → Keeps P o → ((a : A) (l : ℕ) → P a → Keeps Q (next a l)) → Keeps Q (after o next)
unfolding Keeps after
after_keeps P Q (finished a l) next h f = f a l h
after_keeps P Q spent next h f = tt
after_keeps P Q (full l) next h f = tt

pub room_keeps : {A : Type 0} (P : A → Type 0) (need free : ℕ) (next : ℕ → Outcome A) (l : ℕ) → (need ≤ free → Keeps P (next l))
    → Keeps P (when_room (leb need free) next l)
unfolding Keeps when_room
room_keeps P need free next l h = by (leb need free) (λ t. h (leb→le need free t))
  where
    by : (b : Bool) → (T b → Keeps P (next l)) → Keeps P (when_room b next l)
    by true k = k tt
    by false k = tt

-- What is laid fits.
pub lay_keeps : {A : Type 0} (P : A → Type 0) (need free : ℕ) (a : A) (l : ℕ) → (need ≤ free → P a) → Keeps P (lay need free a l)
unfolding lay
lay_keeps P need free a l h = room_keeps P need free (finished a) l (λ n. finished_keeps P a l (h n))

pub branch_keeps : {A : Type 0} (P : A → Type 0) (t : Boolean) (taken other wrong : ℕ → Outcome A) (l : ℕ)
    → Keeps P (taken l) → Keeps P (other l) → Keeps P (wrong l) → Keeps P (branch t taken other wrong l)
unfolding branch
branch_keeps P (booleans.Proper true) taken other wrong l h₁ h₂ h₃ = h₁
branch_keeps P (booleans.Proper false) taken other wrong l h₁ h₂ h₃ = h₂
branch_keeps P (booleans.Error f) taken other wrong l h₁ h₂ h₃ = h₃
