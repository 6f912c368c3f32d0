-- The laws of times, by factors.
use Rattle.std.specs.Prelude.{◌≡◌, ℤ, pos, negsuc, refl}
use Rattle.std.proofs.Common.{sym, ap, subst, ◌∙◌}
use Rattle.std.proofs.Math.Path.{fun_ext}
use Rattle.numbers.specs.declared.number.Number.{Number}
use Rattle.numbers.specs.declared.fault.Fault.TheVariants.{Undef, MissElt, PosOver, NegOver, Unknown, ZeroDivide}
use Rattle.numbers.specs.declared.integer.Integer.{Integer}
use Rattle.numbers.specs.declared.integer.Integer.TheVariants.{Proper, Error}
use Rattle.numbers.specs.Integers.{judged}
use Rattle.numbers.proofs.Judging.{judged_proper}
use Rattle.arithmetic.specs.Arithmetic.{product}
use Rattle.merging.specs.Operators.{Laws}
use Rattle.merging.specs.Operations.{OperationLaws}
use Rattle.merging.specs.Combining.{combining_laws, neutral_kept_by}
use Rattle.products.specs.Times.{times}
use Rattle.products.specs.Products.{NoMissedTally}
use Rattle.products.specs.Factors.{of_number, factor, value, mul, multiplied, Tally}
use Rattle.products.specs.Multiplying.{settle, times_assoc, times_comm, value_tally}
use Rattle.products.specs.Rules.{by_factors}

pub multiplied_is : multiplied ≡ product
multiplied_is = fun_ext (λ j. fun_ext (λ k. sym (by_factors j k)))

multiplied_assoc : (a b c : Integer) → multiplied (multiplied a b) c ≡ multiplied a (multiplied b c)
multiplied_assoc a b c =
    let x = factor a in
    let y = factor b in
    let z = factor c in
    settle (mul x y) z
    ∙ times_assoc x y z
    ∙ ap value (times_comm x (mul y z))
    ∙ sym (settle (mul y z) x)
    ∙ ap value (times_comm (factor (value (mul y z))) x)

pub multiplied_laws : OperationLaws (judged (pos 1)) multiplied
multiplied_laws = record { assoc = multiplied_assoc; comm = λ a b. ap value (times_comm (factor a) (factor b)); neutral_kept = refl }

pub times_laws : OperationLaws (judged (pos 1)) product
times_laws = subst (OperationLaws (judged (pos 1))) multiplied_is multiplied_laws

-- So times is a lawful operator.
pub times_lawful : Laws times
times_lawful = combining_laws times_laws

whole : (z : ℤ) (n : Number) → n.value ≡ z → value (of_number z) ≡ Proper n
whole (pos m) n e = judged_proper (pos m) n e
whole (negsuc m) n e = judged_proper (negsuc m) n e

-- A tally is what its factor comes to.
pub itself : (a : Integer) → Tally a → value (factor a) ≡ a
itself (Proper n) h = whole n.value n refl
itself (Error Undef) h = refl
itself (Error MissElt) h = absurd h
itself (Error PosOver) h = refl
itself (Error NegOver) h = refl
itself (Error Unknown) h = refl
itself (Error ZeroDivide) h = absurd h

-- No product is miss_elt or zero_divide.
product_tally : (a b : Integer) → Tally (product a b)
product_tally a b = subst Tally (sym (by_factors a b)) (value_tally (mul (factor a) (factor b)))

-- So no tally of parts is either: it is 1 times itself.
pub tallies_of_times : NoMissedTally
tallies_of_times n t s = subst Tally (neutral_kept_by times_laws s) (product_tally (judged (pos 1)) t)
