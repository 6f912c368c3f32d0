-- The laws of plus, and the exactness of its sums at 64 bits.
use Rattle.std.specs.Prelude.{◌≡◌, ℕ, ◌+◌, ◌*◌, ◌≤◌, List, [], ◌∷◌, ℤ, pos, ◌+ℤ◌, neg_ℤ, ◌≤ℤ◌, FitsSigned, refl}
use Rattle.std.specs.List.{list_any}
use Rattle.std.proofs.Common.{ap, ◌∙◌, arith}
use Rattle.std.proofs.lemmas.Int.{ints}
use Rattle.std.proofs.Math.Bool.{or_assoc, or_comm}
use Rattle.std.proofs.Math.IntN.{+ℤ_assoc, +ℤ_comm, +ℤ_idl}
use Rattle.std.specs.Int.{w64}
use Rattle.numbers.specs.declared.integer.Integer.{Integer}
use Rattle.numbers.specs.declared.integer.Integer.TheVariants.{Proper, Error}
use Rattle.arithmetic.specs.Arithmetic.{negative, positive}
use Rattle.merging.specs.Operators.{Sized, Laws, most, tallied}
use Rattle.merging.specs.Sizing.{Kept, every_sized}
use Rattle.merging.specs.Free.{FreeLaws, free_laws, from_last, tallied-from_last}
use Rattle.sums.specs.declared.Sum.{Sum}
use Rattle.sums.specs.Plus.{no_parts, one_part, together, plus}
use Rattle.sums.specs.Sums.{total, PlusSums}
use Rattle.sums.specs.NotesLaws.{notes_assoc, notes_comm, notes_in}

-- The sum of n parts lies between −n·M and n·M.
abbrev Within : ℕ → Sum → Type 0
Within n t = (neg_ℤ (pos (n * 2147483647)) ≤ℤ t.sum) × (t.sum ≤ℤ pos (n * 2147483647))

one_within : (p : Integer) → Within 1 (one_part p)
one_within (Proper n) = (omega (arith, ints, n.proper.0), omega (arith, ints, n.proper.1))
one_within (Error f) = (omega (arith, ints), omega (arith, ints))

within : Kept plus Within
within = record {
  start_is = (omega (arith, ints), omega (arith, ints));
  tally_is = one_within;
  join_is = λ m n a b u v h. (omega (arith, ints, u.0, v.0), omega (arith, ints, u.1, v.1));
}

-- The sum of two tallies of at most 32,768 parts together fits 64 bits.
pub sums_fit : (m n : ℕ) (a b : Sum) → Sized plus m a → Sized plus n b → m + n ≤ most → FitsSigned w64 (a.sum +ℤ b.sum)
sums_fit m n a b s t h =
    let u = every_sized within s in
    let v = every_sized within t in
    omega (arith, ints, u.0, u.1, v.0, v.1)

pub together_assoc : (a b c : Sum) → together (together a b) c ≡ together a (together b c)
together_assoc a b c = cc (
  +ℤ_assoc a.sum b.sum c.sum,
  or_assoc a.negative b.negative c.negative,
  or_assoc a.positive b.positive c.positive,
  notes_assoc a.notes b.notes c.notes,
)

together_comm : (a b : Sum) → together a b ≡ together b a
together_comm a b = cc (
  +ℤ_comm a.sum b.sum,
  or_comm a.negative b.negative,
  or_comm a.positive b.positive,
  notes_comm a.notes b.notes,
)

together_none : (a : Sum) → together no_parts a ≡ a
together_none a = ap (λ (z : ℤ). record a { sum = z }) (+ℤ_idl a.sum)

plus_free : FreeLaws plus
plus_free = record {
  assoc = together_assoc;
  comm = together_comm;
  start_kept = together_none no_parts;
  tally_kept = λ p. together_none (one_part p);
}

pub plus_laws : Laws plus
plus_laws = free_laws plus_free

-- What is noted of a list: its exact sum, and the sorts of part that occur.
abbrev noted : List Integer → Sum
noted ps = record { sum = total ps; negative = list_any negative ps; positive = list_any positive ps; notes = notes_in ps }

from_last_noted : (ps : List Integer) → from_last plus ps ≡ noted ps
from_last_noted [] = refl
from_last_noted (p ∷ ps) = ap (together (one_part p)) (from_last_noted ps)

pub tallied_noted : (ps : List Integer) → tallied plus ps ≡ noted ps
tallied_noted ps = tallied-from_last plus_free ps ∙ from_last_noted ps

pub plus_sums : PlusSums
plus_sums ps = ap plus.close (tallied_noted ps)
