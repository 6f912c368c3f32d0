-- Max chooses by max_rank.
use Rattle.std.specs.Prelude.{◌≡◌, true, false, cond, ℤ, pos, negsuc, ◌≤ℤ◌, int_lt, refl}
use Rattle.std.proofs.Common.{◌∙◌, arith}
use Rattle.std.proofs.lemmas.Int.{ints}
use Rattle.std.proofs.lemmas.Bool.{cond-false, false≢true, true≢false}
use Rattle.numbers.specs.declared.fault.Fault.TheVariants.{Undef, MissElt, PosOver, NegOver, Unknown, ZeroDivide}
use Rattle.numbers.specs.declared.integer.Integer.{Integer}
use Rattle.numbers.specs.declared.integer.Integer.TheVariants.{Proper, Error}
use Rattle.numbers.specs.Integers.{judged, barred, greatest, least}
use Rattle.numbers.proofs.Judging.{judged_proper, not_lt}
use Rattle.ordering.specs.Ranking.{max_rank, maximum}
use Rattle.merging.specs.Operators.{Laws}
use Rattle.merging.specs.Operations.{OperationLaws}
use Rattle.merging.specs.Combining.{combining_laws}
use Rattle.choices.specs.Extremes.{greatest_of, MaxGreatest}
use Rattle.choices.specs.Tallies.{NoMissedTally}
use Rattle.choices.specs.Choosing.{Ranks, choosing_laws, choosing_tallies, chosen}

-- What has a rank; undef for the rank of what is barred.
abbrev of_rank : ℤ → Integer
of_rank z =
    cond (int_lt z least) (Error NegOver)
    (cond (int_lt greatest z)
    (cond (int_lt (pos 2147483648) z) (cond (int_lt (pos 2147483649) z) (Error Undef) (Error PosOver)) (Error Unknown))
    (judged z))

back : (a : Integer) → barred a ≡ false → of_rank (max_rank a) ≡ a
back (Proper n) e =
    cond-false _ _ _ (not_lt n.value least n.proper.0)
    ∙ cond-false _ _ _ (not_lt greatest n.value n.proper.1)
    ∙ judged_proper n.value n refl
back (Error Undef) e = absurd (true≢false e)
back (Error MissElt) e = absurd (true≢false e)
back (Error PosOver) e = refl
back (Error NegOver) e = refl
back (Error Unknown) e = refl
back (Error ZeroDivide) e = absurd (true≢false e)

bounds : (a : Integer) → (negsuc 2147483647 ≤ℤ max_rank a) × (max_rank a ≤ℤ pos 2147483650)
bounds (Proper n) = (omega (arith, ints, n.proper.0), omega (arith, ints, n.proper.1))
bounds (Error Undef) = (omega (arith, ints), omega (arith, ints))
bounds (Error MissElt) = (omega (arith, ints), omega (arith, ints))
bounds (Error PosOver) = (omega (arith, ints), omega (arith, ints))
bounds (Error NegOver) = (omega (arith, ints), omega (arith, ints))
bounds (Error Unknown) = (omega (arith, ints), omega (arith, ints))
bounds (Error ZeroDivide) = (omega (arith, ints), omega (arith, ints))

barred_top : (a : Integer) → barred a ≡ true → max_rank a ≡ pos 2147483650
barred_top (Proper n) e = absurd (false≢true e)
barred_top (Error Undef) e = refl
barred_top (Error MissElt) e = refl
barred_top (Error PosOver) e = absurd (false≢true e)
barred_top (Error NegOver) e = absurd (false≢true e)
barred_top (Error Unknown) e = absurd (false≢true e)
barred_top (Error ZeroDivide) e = refl

max_ranks : Ranks max_rank (Error NegOver) (pos 2147483650) of_rank
max_ranks = record {
  start_open = refl;
  start_least = λ a. (bounds a).0;
  below_top = λ a. (bounds a).1;
  barred_top = barred_top;
  tells_undef = refl;
  tells = back;
}

pub max_laws : OperationLaws (Error NegOver) maximum
max_laws = choosing_laws max_ranks

pub max_greatest : MaxGreatest
max_greatest ps = chosen max_ranks ps

-- So max is a lawful operator.
pub max_lawful : Laws greatest_of
max_lawful = combining_laws max_laws

-- No tally of max is miss_elt or zero_divide.
pub tallies_of_max : NoMissedTally greatest_of
tallies_of_max = choosing_tallies max_ranks
