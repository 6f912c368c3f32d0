-- The laws of two sums, and their exactness at 64 bits.
use Rattle.std.specs.Prelude.{◌≡◌, ℕ, ◌+◌, ◌*◌, ◌≤◌, ℤ, pos, ◌+ℤ◌, neg_ℤ, ◌≤ℤ◌, FitsSigned}
use Rattle.std.proofs.Common.{ap₂, arith}
use Rattle.std.specs.Int.{w64}
use Rattle.std.proofs.lemmas.Int.{clamps, ints}
use Rattle.std.proofs.Math.IntN.{+ℤ_assoc, +ℤ_comm, +ℤ_idl}
use Rattle.numbers.specs.declared.integer.Integer.{Integer}
use Rattle.numbers.specs.declared.integer.Integer.TheVariants.{Proper, Error}
use Rattle.merging.specs.Operators.{Sized, Laws, most}
use Rattle.merging.specs.Sizing.{Kept, every_sized}
use Rattle.merging.specs.Free.{FreeLaws, free_laws}
use Rattle.sums.specs.NotesLaws.{notes_assoc, notes_comm}
use Rattle.outside_plus.specs.declared.Sides.{Sides}
use Rattle.outside_plus.specs.TwoSums.{no_parts, one_part, together, two_sums}

-- The sides of n parts lie between −n·M and 0, and between 0 and n·M.
abbrev Within : ℕ → Sides → Type 0
Within n t = (neg_ℤ (pos (n * 2147483647)) ≤ℤ t.below) × (t.below ≤ℤ pos 0) × (pos 0 ≤ℤ t.above) × (t.above ≤ℤ pos (n * 2147483647))

one_within : (p : Integer) → Within 1 (one_part p)
one_within (Proper n) = (
  omega (arith, ints, clamps, n.proper.0),
  omega (arith, ints, clamps),
  omega (arith, ints, clamps),
  omega (arith, ints, clamps, n.proper.1),
)
one_within (Error f) = (omega (arith, ints), omega (arith, ints), omega (arith, ints), omega (arith, ints))

within : Kept two_sums Within
within = record {
  start_is = (omega (arith, ints), omega (arith, ints), omega (arith, ints), omega (arith, ints));
  tally_is = one_within;
  join_is = λ m n a b u v h. (omega (arith, ints, u.0, v.0), omega (arith, ints, u.1, v.1), omega (arith, ints, u.2, v.2), omega (arith, ints, u.3, v.3));
}

-- Both sides of a join fit 64 bits, and so do the two sides of a tally together.
pub below_fits : (m n : ℕ) (a b : Sides) → Sized two_sums m a → Sized two_sums n b → m + n ≤ most → FitsSigned w64 (a.below +ℤ b.below)
below_fits m n a b s t h =
    let u = every_sized within s in
    let v = every_sized within t in
    omega (arith, ints, u.0, u.1, v.0, v.1)

pub above_fits : (m n : ℕ) (a b : Sides) → Sized two_sums m a → Sized two_sums n b → m + n ≤ most → FitsSigned w64 (a.above +ℤ b.above)
above_fits m n a b s t h =
    let u = every_sized within s in
    let v = every_sized within t in
    omega (arith, ints, u.2, u.3, v.2, v.3)

pub both_fit : (n : ℕ) (t : Sides) → Sized two_sums n t → n ≤ most → FitsSigned w64 (t.above +ℤ t.below)
both_fit n t s h =
    let u = every_sized within s in
    omega (arith, ints, u.0, u.1, u.2, u.3)

pub together_assoc : (a b c : Sides) → together (together a b) c ≡ together a (together b c)
together_assoc a b c = cc (+ℤ_assoc a.below b.below c.below, +ℤ_assoc a.above b.above c.above, notes_assoc a.notes b.notes c.notes)

pub together_comm : (a b : Sides) → together a b ≡ together b a
together_comm a b = cc (+ℤ_comm a.below b.below, +ℤ_comm a.above b.above, notes_comm a.notes b.notes)

pub together_none : (a : Sides) → together no_parts a ≡ a
together_none a = ap₂ (λ (x y : ℤ). record { below = x; above = y; notes = a.notes }) (+ℤ_idl a.below) (+ℤ_idl a.above)

pub two_sums_free : FreeLaws two_sums
two_sums_free = record {
  assoc = together_assoc;
  comm = together_comm;
  start_kept = together_none no_parts;
  tally_kept = λ p. together_none (one_part p);
}

pub two_sums_laws : Laws two_sums
two_sums_laws = free_laws two_sums_free
