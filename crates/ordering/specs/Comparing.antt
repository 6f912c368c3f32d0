-- Comparisons of two integers.
use Rattle.std.specs.Prelude.{Bool, not, cond, ◌||◌, Option, Some, None, int_lt}
use Rattle.std.specs.declared.cmp.Ordering.{Ordering}
use Rattle.std.specs.declared.cmp.Ordering.TheVariants.{Less}
use Rattle.std.specs.Ordering.{int_cmp, ordering_reverse, is_lt, is_le, is_gt, is_ge}
use Rattle.std.specs.Option.{option_map}
use Rattle.numbers.specs.declared.fault.Fault.{Fault}
use Rattle.numbers.specs.declared.fault.Fault.TheVariants.{PosOver, NegOver, Unknown}
use Rattle.numbers.specs.declared.fault.BasicFault.TheVariants.{Undef}
use Rattle.numbers.specs.declared.integer.Integer.{Integer}
use Rattle.numbers.specs.declared.integer.Integer.TheVariants.{Proper, Error}
use Rattle.numbers.specs.declared.boolean.Boolean.{Boolean}
use Rattle.numbers.specs.declared.boolean.Boolean.TheVariants as truth
use Rattle.numbers.specs.Integers.{is_fault, barred}

-- Less, undecided where J is this error value or unknown.
abbrev pub less_unless : Fault → Integer → Option Ordering
less_unless f j = cond (is_fault f j || is_fault Unknown j) None (Some Less)

-- 5a. J < pos_over, undecided where J is pos_over or unknown.
abbrev pub to_pos_over : Integer → Option Ordering
to_pos_over = less_unless PosOver

-- 5b. neg_over < J, undecided where J is neg_over or unknown.
abbrev pub from_neg_over : Integer → Option Ordering
from_neg_over = less_unless NegOver

-- The same comparison with the arguments exchanged.
abbrev pub reversed : Option Ordering → Option Ordering
reversed = option_map ordering_reverse

-- Proper numbers by their values; a comparison with any other error is undecided.
abbrev pub by_value : Integer → Integer → Option Ordering
by_value (Proper m) (Proper n) = Some (int_cmp m.value n.value)
by_value (Proper m) (Error f) = None
by_value (Error f) k = None

-- The order of two integers, none where an error value leaves it open: one line for each rule, in their order, the first
-- that fits counting.
abbrev pub compared : Integer → Integer → Option Ordering
compared j k =
    cond (barred j || barred k) None
    (cond (is_fault PosOver k) (to_pos_over j)
    (cond (is_fault PosOver j) (reversed (to_pos_over k))
    (cond (is_fault NegOver j) (from_neg_over k)
    (cond (is_fault NegOver k) (reversed (from_neg_over j))
    (by_value j k)))))

-- What a test says: undef where there is nothing to test.
abbrev pub answered : Option Bool → Boolean
answered None = truth.Error Undef
answered (Some b) = truth.Proper b

-- What a test of the order says.
abbrev pub says : (Ordering → Bool) → Option Ordering → Boolean
says test order = answered (option_map test order)

abbrev pub less : Integer → Integer → Boolean
less j k = says is_lt (compared j k)

abbrev pub at_most : Integer → Integer → Boolean
at_most j k = says is_le (compared j k)

abbrev pub greater : Integer → Integer → Boolean
greater j k = says is_gt (compared j k)

abbrev pub at_least : Integer → Integer → Boolean
at_least j k = says is_ge (compared j k)

-- = and ~= compare proper numbers only; with any error they give undef.
abbrev pub equal : Integer → Integer → Boolean
equal (Proper m) (Proper n) = truth.Proper (not (int_lt m.value n.value || int_lt n.value m.value))
equal (Proper m) (Error f) = truth.Error Undef
equal (Error f) k = truth.Error Undef

abbrev pub unequal : Integer → Integer → Boolean
unequal (Proper m) (Proper n) = truth.Proper (int_lt m.value n.value || int_lt n.value m.value)
unequal (Proper m) (Error f) = truth.Error Undef
unequal (Error f) k = truth.Error Undef
