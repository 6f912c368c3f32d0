-- Min chooses by the negation of min_rank.
use Rattle.std.specs.Prelude.{◌≡◌, true, false, cond, ◌||◌, List, ℤ, pos, negsuc, neg_ℤ, ◌≤ℤ◌, int_lt, refl}
use Rattle.std.proofs.Common.{ap, subst, ◌∙◌, arith}
use Rattle.std.proofs.Math.Path.{fun_ext}
use Rattle.std.proofs.lemmas.Int.{ints}
use Rattle.std.proofs.lemmas.Bool.{cond-false, false≢true, true≢false}
use Rattle.std.proofs.ByRecursion.{All-weaker}
use Rattle.numbers.specs.declared.fault.Fault.TheVariants.{Undef, MissElt, PosOver, NegOver, Unknown, ZeroDivide}
use Rattle.numbers.specs.declared.integer.Integer.{Integer}
use Rattle.numbers.specs.declared.integer.Integer.TheVariants.{Proper, Error}
use Rattle.numbers.specs.Integers.{judged, barred, greatest, least}
use Rattle.numbers.proofs.Judging.{judged_proper, not_lt}
use Rattle.ordering.specs.Ranking.{min_rank, minimum}
use Rattle.merging.specs.Operators.{Laws, meaning}
use Rattle.merging.specs.Operations.{OperationLaws, combining}
use Rattle.merging.specs.Combining.{combining_laws}
use Rattle.choices.specs.Extremes.{least_of, Chosen, MinLeast}
use Rattle.choices.specs.Tallies.{NoMissedTally}
use Rattle.choices.specs.Choosing.{chosen_by, Ranks, choosing_laws, choosing_tallies, chosen}

abbrev down_rank : Integer → ℤ
down_rank a = neg_ℤ (min_rank a)

-- What has a rank of min; undef for the rank of what is barred.
abbrev of_rank : ℤ → Integer
of_rank z =
    cond (int_lt greatest z) (Error PosOver)
    (cond (int_lt z least)
    (cond (int_lt z (negsuc 2147483647)) (cond (int_lt z (negsuc 2147483648)) (Error Undef) (Error NegOver)) (Error Unknown))
    (judged z))

back : (a : Integer) → barred a ≡ false → of_rank (min_rank a) ≡ a
back (Proper n) e =
    cond-false _ _ _ (not_lt greatest n.value n.proper.1)
    ∙ cond-false _ _ _ (not_lt n.value least n.proper.0)
    ∙ judged_proper n.value n refl
back (Error Undef) e = absurd (true≢false e)
back (Error MissElt) e = absurd (true≢false e)
back (Error PosOver) e = refl
back (Error NegOver) e = refl
back (Error Unknown) e = refl
back (Error ZeroDivide) e = absurd (true≢false e)

bounds : (a : Integer) → (negsuc 2147483647 ≤ℤ down_rank a) × (down_rank a ≤ℤ pos 2147483650)
bounds (Proper n) = (omega (arith, ints, n.proper.1), omega (arith, ints, n.proper.0))
bounds (Error Undef) = (omega (arith, ints), omega (arith, ints))
bounds (Error MissElt) = (omega (arith, ints), omega (arith, ints))
bounds (Error PosOver) = (omega (arith, ints), omega (arith, ints))
bounds (Error NegOver) = (omega (arith, ints), omega (arith, ints))
bounds (Error Unknown) = (omega (arith, ints), omega (arith, ints))
bounds (Error ZeroDivide) = (omega (arith, ints), omega (arith, ints))

barred_top : (a : Integer) → barred a ≡ true → down_rank a ≡ pos 2147483650
barred_top (Proper n) e = absurd (false≢true e)
barred_top (Error Undef) e = refl
barred_top (Error MissElt) e = refl
barred_top (Error PosOver) e = absurd (false≢true e)
barred_top (Error NegOver) e = absurd (false≢true e)
barred_top (Error Unknown) e = absurd (false≢true e)
barred_top (Error ZeroDivide) e = refl

twice_turned : (x : ℤ) → neg_ℤ (neg_ℤ x) ≡ x
twice_turned x = omega (arith, ints)

min_ranks : Ranks down_rank (Error PosOver) (pos 2147483650) (λ z. of_rank (neg_ℤ z))
min_ranks = record {
  start_open = refl;
  start_least = λ a. (bounds a).0;
  below_top = λ a. (bounds a).1;
  barred_top = barred_top;
  tells_undef = refl;
  tells = λ a e. ap of_rank (twice_turned (min_rank a)) ∙ back a e;
}

turned : (x y : ℤ) → int_lt (neg_ℤ x) (neg_ℤ y) ≡ int_lt y x
turned x y = grind (arith, ints)

minimum_is : chosen_by down_rank ≡ minimum
minimum_is = fun_ext (λ j. fun_ext (λ k. ap (λ b. cond (barred j || barred k) (Error Undef) (cond b k j)) (turned (min_rank j) (min_rank k))))

pub min_laws : OperationLaws (Error PosOver) minimum
min_laws = subst (OperationLaws (Error PosOver)) minimum_is (choosing_laws min_ranks)

turned_over : (ps : List Integer) (r : Integer) → Chosen (λ r p. down_rank p ≤ℤ down_rank r) (Error PosOver) ps r → Chosen (λ r p. min_rank r ≤ℤ min_rank p) (Error PosOver) ps r
turned_over ps r c = record {
  undefined = c.undefined;
  leading = λ e. All-weaker (λ p. down_rank p ≤ℤ down_rank r) (λ p. min_rank r ≤ℤ min_rank p) (λ p h. omega (arith, ints)) ps (c.leading e);
  one_of_them = c.one_of_them;
}

pub min_least : MinLeast
min_least ps =
    turned_over ps (meaning (combining (Error PosOver) minimum) ps)
    (subst (λ m. Chosen (λ r p. down_rank p ≤ℤ down_rank r) (Error PosOver) ps (meaning (combining (Error PosOver) m) ps)) minimum_is (chosen min_ranks ps))

-- So min is a lawful operator.
pub min_lawful : Laws least_of
min_lawful = combining_laws min_laws

-- No tally of min is miss_elt or zero_divide.
pub tallies_of_min : NoMissedTally least_of
tallies_of_min = subst (λ m. NoMissedTally (combining (Error PosOver) m)) minimum_is (choosing_tallies min_ranks)
