-- Merging operators: what defines one, what its laws are, and what it means for a list of parts.
use Rattle.std.specs.Prelude.{◌≡◌, ℕ, ◌+◌, ◌≤◌, List, fold}

-- The tally of no parts, the tally of one part, the join of two tallies, and the closing of a tally.
pub record Definition (Part Tally Closed : Type 0) : Type 0 where
  pub start : Tally
  pub tally : Part → Tally
  pub join : Tally → Tally → Tally
  pub close : Tally → Closed

-- The most parts that a merge takes.
abbrev pub most : ℕ
most = 32768

-- t is a tally of n parts: the start of none, a part's tally of one, and a join of as many as both sides have together.
pub data Sized {Part Tally Closed : Type 0} (d : Definition Part Tally Closed) : ℕ → Tally → Type 0 where
  sized_start : Sized d 0 d.start
  sized_tally : (p : Part) → Sized d 1 (d.tally p)
  sized_join : (m n : ℕ) (a b : Tally) → Sized d m a → Sized d n b → m + n ≤ most → Sized d (m + n) (d.join a b)

-- For tallies of at most `most` parts together, and nothing else: join is associative and commutative, and the start changes no tally.
pub record Laws {Part Tally Closed : Type 0} (d : Definition Part Tally Closed) : Type 0 where
  pub assoc : (k m n : ℕ) (a b c : Tally) → Sized d k a → Sized d m b → Sized d n c → (k + m) + n ≤ most → d.join (d.join a b) c ≡ d.join a (d.join b c)
  pub comm : (m n : ℕ) (a b : Tally) → Sized d m a → Sized d n b → m + n ≤ most → d.join a b ≡ d.join b a
  pub neutral : (n : ℕ) (a : Tally) → Sized d n a → n ≤ most → d.join d.start a ≡ a

-- A list's tally: the start joined with each part's tally in turn.
abbrev pub tallied : {Part Tally Closed : Type 0} → Definition Part Tally Closed → List Part → Tally
tallied d ps = fold (λ t p. d.join t (d.tally p)) d.start ps

-- What an operator means for a list: the list's tally, closed.
abbrev pub meaning : {Part Tally Closed : Type 0} → Definition Part Tally Closed → List Part → Closed
meaning d ps = d.close (tallied d ps)
