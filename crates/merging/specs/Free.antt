-- Operators whose laws need no count of parts, and what they mean for a list of any length.
use Rattle.std.specs.Prelude.{◌≡◌, ℕ, List, [], ◌∷◌, fold}
use Rattle.std.proofs.Common.{sym, ap, ◌∙◌}
use Rattle.merging.specs.Operators.{Definition, Sized, Laws, tallied}
use Rattle.merging.specs.Sizing.{Kept, every_sized}

-- Join is associative and commutative for all tallies, and the start changes neither itself nor a part's tally.
pub record FreeLaws {P T C : Type 0} (d : Definition P T C) : Type 0 where
  pub assoc : (a b c : T) → d.join (d.join a b) c ≡ d.join a (d.join b c)
  pub comm : (a b : T) → d.join a b ≡ d.join b a
  pub start_kept : d.join d.start d.start ≡ d.start
  pub tally_kept : (p : P) → d.join d.start (d.tally p) ≡ d.tally p

-- Each part's tally joined to that of the parts after it.
abbrev pub from_last : {P T C : Type 0} → Definition P T C → List P → T
from_last d [] = d.start
from_last d (p ∷ ps) = d.join (d.tally p) (from_last d ps)

module _ {P T C : Type 0} {d : Definition P T C} (laws : FreeLaws d) where
  join_kept : (a b : T) → d.join d.start a ≡ a → d.join d.start (d.join a b) ≡ d.join a b
  join_kept a b e = sym (laws.assoc d.start a b) ∙ ap (λ t. d.join t b) e

  kept : Kept d (λ n t. d.join d.start t ≡ t)
  kept = record { start_is = laws.start_kept; tally_is = laws.tally_kept; join_is = λ m n a b u v h. join_kept a b u }

  -- The start changes no tally of parts, however many the parts are.
  pub start_kept_by : {n : ℕ} {t : T} → Sized d n t → d.join d.start t ≡ t
  start_kept_by = every_sized kept

  pub free_laws : Laws d
  free_laws = record {
    assoc = λ k m n a b c s t u h. laws.assoc a b c;
    comm = λ m n a b s t h. laws.comm a b;
    neutral = λ n a s h. start_kept_by s;
  }

  onto-from_last : (ps : List P) (t : T) → d.join d.start t ≡ t → fold (λ s p. d.join s (d.tally p)) t ps ≡ d.join t (from_last d ps)
  onto-from_last [] t e = sym (laws.comm t d.start ∙ e)
  onto-from_last (p ∷ ps) t e = onto-from_last ps (d.join t (d.tally p)) (join_kept t (d.tally p) e) ∙ laws.assoc t (d.tally p) (from_last d ps)

  from_last_kept : (ps : List P) → d.join d.start (from_last d ps) ≡ from_last d ps
  from_last_kept [] = laws.start_kept
  from_last_kept (p ∷ ps) = join_kept (d.tally p) (from_last d ps) (laws.tally_kept p)

  -- A list's tally may as well be put together from the last part on.
  pub tallied-from_last : (ps : List P) → tallied d ps ≡ from_last d ps
  tallied-from_last ps = onto-from_last ps d.start laws.start_kept ∙ from_last_kept ps
