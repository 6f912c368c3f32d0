-- Arithmetic on integers with error values. Each operation has one line for each of its rules, in their order, and the
-- first that fits counts; a rule of + and of × is tried both ways round before the next.
use Rattle.std.specs.Prelude.{Bool, false, cond, not, ◌||◌, ℤ, pos, ◌+ℤ◌, ◌-ℤ◌, ◌*ℤ◌, neg_ℤ, int_div, int_lt, unsigned_abs}
use Rattle.numbers.specs.declared.fault.Fault.TheVariants.{Undef, MissElt, PosOver, NegOver, Unknown, ZeroDivide}
use Rattle.numbers.specs.declared.integer.Integer.{Integer}
use Rattle.numbers.specs.declared.integer.Integer.TheVariants.{Proper, Error}
use Rattle.numbers.specs.Integers.{judged, is_fault, barred}

-- A proper number below 0, equal to 0, above 0.
abbrev pub negative : Integer → Bool
negative (Proper n) = int_lt n.value (pos 0)
negative (Error f) = false

abbrev pub is_zero : Integer → Bool
is_zero (Proper n) = not (int_lt n.value (pos 0) || int_lt (pos 0) n.value)
is_zero (Error f) = false

abbrev pub positive : Integer → Bool
positive (Proper n) = int_lt (pos 0) n.value
positive (Error f) = false

-- An exact operation on two proper numbers, judged against M; any other operation on an error gives undef.
abbrev pub exactly : (ℤ → ℤ → ℤ) → Integer → Integer → Integer
exactly f (Proper m) (Proper n) = judged (f m.value n.value)
exactly f (Proper m) (Error g) = Error Undef
exactly f (Error g) k = Error Undef

-- 1a. pos_over + J is pos_over where J is at least 0 or pos_over, else unknown.
abbrev pub pos_over_plus : Integer → Integer
pos_over_plus j = cond (is_zero j || positive j || is_fault PosOver j) (Error PosOver) (Error Unknown)

-- 1b. neg_over + J is neg_over where J is at most 0 or neg_over, else unknown.
abbrev pub neg_over_plus : Integer → Integer
neg_over_plus j = cond (is_zero j || negative j || is_fault NegOver j) (Error NegOver) (Error Unknown)

-- 1c. unknown + J is unknown.
abbrev pub sum : Integer → Integer → Integer
sum j k =
    cond (barred j || barred k) (Error Undef)
    (cond (is_fault PosOver j) (pos_over_plus k)
    (cond (is_fault PosOver k) (pos_over_plus j)
    (cond (is_fault NegOver j) (neg_over_plus k)
    (cond (is_fault NegOver k) (neg_over_plus j)
    (cond (is_fault Unknown j || is_fault Unknown k) (Error Unknown)
    (exactly ◌+ℤ◌ j k))))))

-- 2a, 2b, 2c. Negation exchanges the overs and keeps unknown.
abbrev pub negation : Integer → Integer
negation (Proper n) = judged (neg_ℤ n.value)
negation (Error Undef) = Error Undef
negation (Error MissElt) = Error Undef
negation (Error PosOver) = Error NegOver
negation (Error NegOver) = Error PosOver
negation (Error Unknown) = Error Unknown
negation (Error ZeroDivide) = Error Undef

-- 3. J − K is J + (−K).
abbrev pub difference : Integer → Integer → Integer
difference j k = sum j (negation k)

-- 4a. J × pos_over is neg_over where J is at most −1 or neg_over, pos_over where J is at least 1 or pos_over, 0 where J is 0,
-- else unknown.
abbrev pub times_pos_over : Integer → Integer
times_pos_over j =
    cond (negative j || is_fault NegOver j) (Error NegOver)
    (cond (positive j || is_fault PosOver j) (Error PosOver)
    (cond (is_zero j) (judged (pos 0))
    (Error Unknown)))

-- 4b. J × neg_over is −(J × pos_over).
abbrev pub times_neg_over : Integer → Integer
times_neg_over j = negation (times_pos_over j)

-- 4c. J × unknown is 0 where J is 0, else unknown.
abbrev pub times_unknown : Integer → Integer
times_unknown j = cond (is_zero j) (judged (pos 0)) (Error Unknown)

abbrev pub product : Integer → Integer → Integer
product j k =
    cond (barred j || barred k) (Error Undef)
    (cond (is_fault PosOver k) (times_pos_over j)
    (cond (is_fault PosOver j) (times_pos_over k)
    (cond (is_fault NegOver k) (times_neg_over j)
    (cond (is_fault NegOver j) (times_neg_over k)
    (cond (is_fault Unknown k) (times_unknown j)
    (cond (is_fault Unknown j) (times_unknown k)
    (exactly ◌*ℤ◌ j k)))))))

-- A proper number by 0 is zero_divide; an error on either side gives undef.
abbrev pub divided : (ℤ → ℤ → ℤ) → Integer → Integer → Integer
divided f (Proper m) (Proper n) = cond (is_zero (Proper n)) (Error ZeroDivide) (judged (f m.value n.value))
divided f (Proper m) (Error g) = Error Undef
divided f (Error g) k = Error Undef

-- Division drops the fraction toward zero.
abbrev pub quotient : Integer → Integer → Integer
quotient = divided int_div

-- mod(J, K) is J − K × (J / K).
abbrev pub modulus : Integer → Integer → Integer
modulus = divided (λ m n. m -ℤ n *ℤ int_div m n)

-- 6a, 6b. The magnitude of either over is pos_over, and of unknown unknown.
abbrev pub magnitude : Integer → Integer
magnitude (Proper n) = judged (pos (unsigned_abs n.value))
magnitude (Error Undef) = Error Undef
magnitude (Error MissElt) = Error Undef
magnitude (Error PosOver) = Error PosOver
magnitude (Error NegOver) = Error PosOver
magnitude (Error Unknown) = Error Unknown
magnitude (Error ZeroDivide) = Error Undef
