-- What reading gives: something, with the place behind it, or a refusal.
use Rattle.std.specs.Prelude.{ℕ, ◌+◌, Bool, cond, List, [], ◌∷◌, length, Some, None, Option, ◌==◌, nat_lt, slice_index}
use Rattle.values.specs.declared.refusal.Refusal.{Refusal}
use Rattle.values.specs.declared.refusal.Refusal.TheVariants.{Cut}

pub data Out (A : Type 0) : Type 0 where
  accepted : A → (next : ℕ) → Out A
  refused : Refusal → Out A

-- The first refusal stands.
abbrev pub after : {A B : Type 0} → Out A → (A → ℕ → Out B) → Out B
after (accepted a next) f = f a next
after (refused w) f = refused w

-- A test that must hold, and something that must be there.
abbrev pub judged : {A : Type 0} → Refusal → Bool → A → ℕ → Out A
judged w ok a next = cond ok (accepted a next) (refused w)

abbrev pub found : {A : Type 0} → Refusal → Option A → ℕ → Out A
found w (Some a) next = accepted a next
found w None next = refused w

abbrev pub passes : Refusal → Bool → ℕ → Out (Unit {0})
passes w ok next = judged w ok tt next

-- For each of a list in turn, each from where the one before ended.
unfoldable pub each : {A B : Type 0} → (A → ℕ → Out B) → List A → ℕ → Out (List B)
each f [] p = accepted [] p
each f (x ∷ xs) p = after (f x p) λ a q. after (each f xs q) λ rest r. accepted (a ∷ rest) r

-- The kind byte of the record at p; where the bytes end, none.
abbrev pub first_at : List ℕ → ℕ → Out ℕ
first_at bs p = judged (Cut p) (nat_lt p (length bs)) (slice_index bs p) (p + 1)

-- The body of n bytes of the record at p is whole.
abbrev pub whole : ℕ → List ℕ → ℕ → Out (Unit {0})
whole n bs p = passes (Cut p) (nat_lt (p + n) (length bs)) (p + (n + 1))

-- Its i-th byte.
abbrev pub body : List ℕ → ℕ → ℕ → ℕ
body bs p i = slice_index bs (p + i)

-- What a table has under a number.
abbrev pub lookup : {A : Type 0} → List (ℕ × A) → ℕ → Option A
lookup [] n = None
lookup (x ∷ xs) n = cond (n == x.0) (Some x.1) (lookup xs n)
