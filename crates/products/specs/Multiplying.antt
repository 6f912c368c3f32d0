-- The laws of multiplication by sign and magnitude, up to what a factor comes to.
use Rattle.std.specs.Prelude.{◌≡◌, ℕ, zero, suc, ◌*◌, ◌<◌, ◌≤◌, Bool, true, false, not, pos, neg_ℤ, ◌≤ℤ◌, refl}
use Rattle.std.proofs.Common.{sym, ap, subst, ◌∙◌, ⊎_elim, mul-zero, zero-mul, mul_comm, mul_assoc, one-mul, mul-pos, le-mul_of_pos_right, zero-lt-suc, arith}
use Rattle.std.proofs.lemmas.Int.{ints}
use Rattle.std.proofs.lemmas.Bool.{cases_lt}
use Rattle.numbers.specs.declared.number.Number.{Number}
use Rattle.numbers.specs.declared.fault.Fault.TheVariants.{PosOver, NegOver}
use Rattle.numbers.specs.declared.integer.Integer.{Integer}
use Rattle.numbers.specs.declared.integer.Integer.TheVariants.{Proper, Error}
use Rattle.numbers.specs.Integers.{judged, greatest, least}
use Rattle.numbers.proofs.Judging.{judged_proper, judged_above, judged_below}
use Rattle.products.specs.Factors.{Factor, number, unknown, undefined, of_number, signed, factor, value, of_unknown, minus, mul, Tally}

signed_in : (s : Bool) (m : ℕ) → m ≤ 2147483647 → (least ≤ℤ signed s m) × (signed s m ≤ℤ greatest)
signed_in false m h = (omega (arith, ints), omega (arith, ints))
signed_in true m h = (omega (arith, ints), omega (arith, ints))

abbrev proper : (s : Bool) (m : ℕ) → m ≤ 2147483647 → Number
proper s m h = record { value = signed s m; proper = signed_in s m h }

small : (s : Bool) (m : ℕ) (h : m ≤ 2147483647) → judged (signed s m) ≡ Proper (proper s m h)
small s m h = judged_proper (signed s m) (proper s m h) refl

abbrev over : Bool → Integer
over false = Error PosOver
over true = Error NegOver

-- Beyond M a signed magnitude is the over of its sign.
pub big : (s : Bool) (m : ℕ) → 2147483647 < m → judged (signed s m) ≡ over s
big false m h = judged_above (pos m) (omega (arith, ints))
big true m h = judged_below (neg_ℤ (pos m)) (omega (arith, ints))

factor_over : (s : Bool) → factor (over s) ≡ number s 2147483648
factor_over false = refl
factor_over true = refl

-- A 0 has no sign.
zero_same : (s : Bool) (x : ℕ) → x ≡ 0 → judged (signed s x) ≡ judged (pos 0)
zero_same false x e = ap (λ y. judged (pos y)) e
zero_same true x e = ap (λ y. judged (neg_ℤ (pos y))) e

unknown_pos : (m : ℕ) → 0 < m → of_unknown m ≡ unknown
unknown_pos zero h = absurd (omega arith)
unknown_pos (suc m) h = refl

grow : (a n : ℕ) → 2147483647 < a → 2147483647 < a * suc n
grow a n h = omega (arith, le-mul_of_pos_right a (zero-lt-suc n))

same_big : (u : Bool) (a b n : ℕ) → 2147483647 < a → 2147483647 < b → judged (signed u (a * n)) ≡ judged (signed u (b * n))
same_big u a b zero h g = ap (λ x. judged (signed u x)) (mul-zero a ∙ sym (mul-zero b))
same_big u a b (suc n) h g = big u (a * suc n) (grow a n h) ∙ sym (big u (b * suc n) (grow b n g))

big_mul : (s : Bool) (m : ℕ) (l : Factor) → 2147483647 < m → value (mul (number s 2147483648) l) ≡ value (mul (number s m) l)
big_mul s m (number t n) h = same_big (minus s t) 2147483648 m n (omega arith) h
big_mul s m unknown h = sym (ap value (unknown_pos m (omega arith)))
big_mul s m undefined h = refl

zero_sign : (l : Factor) → value (mul (number false 0) l) ≡ value (mul (number true 0) l)
zero_sign (number t n) = zero_same t (0 * n) (zero-mul n) ∙ sym (zero_same (not t) (0 * n) (zero-mul n))
zero_sign unknown = refl
zero_sign undefined = refl

small_mul : (s : Bool) (m : ℕ) (l : Factor) → value (mul (of_number (signed s m)) l) ≡ value (mul (number s m) l)
small_mul false m l = refl
small_mul true zero l = zero_sign l
small_mul true (suc m) l = refl

-- A product that was judged multiplies on as it would have.
pub settle : (k l : Factor) → value (mul (factor (value k)) l) ≡ value (mul k l)
settle (number s m) l =
    ⊎_elim
    (λ h. ap (λ r. value (mul (factor r) l)) (big s m h) ∙ ap (λ r. value (mul r l)) (factor_over s) ∙ big_mul s m l h)
    (λ h. ap (λ r. value (mul (factor r) l)) (small s m h) ∙ small_mul s m l)
    (cases_lt 2147483647 m)
settle unknown l = refl
settle undefined l = refl

minus_assoc : (s t u : Bool) → minus (minus s t) u ≡ minus s (minus t u)
minus_assoc false t u = refl
minus_assoc true false u = refl
minus_assoc true true false = refl
minus_assoc true true true = refl

minus_comm : (s t : Bool) → minus s t ≡ minus t s
minus_comm false false = refl
minus_comm false true = refl
minus_comm true false = refl
minus_comm true true = refl

pub times_undefined : (k : Factor) → mul k undefined ≡ undefined
times_undefined (number s m) = refl
times_undefined unknown = refl
times_undefined undefined = refl

-- Associativity where one of three is unknown.
unknown_first : (b : ℕ) (u : Bool) (c : ℕ) → value (mul (of_unknown b) (number u c)) ≡ value (of_unknown (b * c))
unknown_first zero u c = zero_same u (0 * c) (zero-mul c) ∙ sym (ap (λ x. value (of_unknown x)) (zero-mul c))
unknown_first (suc b) u zero = sym (ap (λ x. value (of_unknown x)) (mul-zero (suc b)))
unknown_first (suc b) u (suc c) = sym (ap value (unknown_pos (suc b * suc c) (mul-pos (zero-lt-suc b) (zero-lt-suc c))))

unknown_between : (s : Bool) (a : ℕ) (u : Bool) (c : ℕ) → value (mul (of_unknown a) (number u c)) ≡ value (mul (number s a) (of_unknown c))
unknown_between s zero u zero = zero_same u 0 refl ∙ sym (zero_same (minus s false) 0 refl)
unknown_between s zero u (suc c) = zero_same u (0 * suc c) (zero-mul (suc c))
unknown_between s (suc a) u zero = sym (zero_same (minus s false) (suc a * 0) (mul-zero (suc a)))
unknown_between s (suc a) u (suc c) = refl

unknown_last : (s : Bool) (a b : ℕ) → value (of_unknown (a * b)) ≡ value (mul (number s a) (of_unknown b))
unknown_last s a zero = ap (λ x. value (of_unknown x)) (mul-zero a) ∙ sym (zero_same (minus s false) (a * 0) (mul-zero a))
unknown_last s zero (suc b) = ap (λ x. value (of_unknown x)) (zero-mul (suc b))
unknown_last s (suc a) (suc b) = ap value (unknown_pos (suc a * suc b) (mul-pos (zero-lt-suc a) (zero-lt-suc b)))

-- Associativity where two of three are unknown.
number_last : (c : ℕ) → value (of_unknown c) ≡ value (mul unknown (of_unknown c))
number_last zero = refl
number_last (suc c) = refl

number_between : (b : ℕ) → value (mul (of_unknown b) unknown) ≡ value (mul unknown (of_unknown b))
number_between zero = refl
number_between (suc b) = refl

number_first : (a : ℕ) → value (mul (of_unknown a) unknown) ≡ value (of_unknown a)
number_first zero = refl
number_first (suc a) = refl

pub times_assoc : (k l m : Factor) → value (mul (mul k l) m) ≡ value (mul k (mul l m))
times_assoc undefined l m = refl
times_assoc unknown undefined m = refl
times_assoc (number s a) undefined m = refl
times_assoc unknown unknown undefined = refl
times_assoc unknown (number t b) undefined = ap value (times_undefined (of_unknown b))
times_assoc (number s a) unknown undefined = ap value (times_undefined (of_unknown a))
times_assoc (number s a) (number t b) undefined = refl
times_assoc unknown unknown unknown = refl
times_assoc unknown unknown (number u c) = number_last c
times_assoc unknown (number t b) unknown = number_between b
times_assoc unknown (number t b) (number u c) = unknown_first b u c
times_assoc (number s a) unknown unknown = number_first a
times_assoc (number s a) unknown (number u c) = unknown_between s a u c
times_assoc (number s a) (number t b) unknown = unknown_last s a b
times_assoc (number s a) (number t b) (number u c) =
    ap (λ x. value (number x ((a * b) * c))) (minus_assoc s t u)
    ∙ ap (λ x. value (number (minus s (minus t u)) x)) (mul_assoc a b c)

pub times_comm : (k l : Factor) → mul k l ≡ mul l k
times_comm (number s a) (number t b) = ap (λ x. number x (a * b)) (minus_comm s t) ∙ ap (number (minus t s)) (mul_comm a b)
times_comm (number s a) unknown = refl
times_comm (number s a) undefined = refl
times_comm unknown (number t b) = refl
times_comm unknown unknown = refl
times_comm unknown undefined = refl
times_comm undefined (number t b) = refl
times_comm undefined unknown = refl
times_comm undefined undefined = refl

pub times_one : (k : Factor) → mul (number false 1) k ≡ k
times_one (number t n) = ap (number t) (one-mul n)
times_one unknown = refl
times_one undefined = refl

over_tally : (s : Bool) → Tally (over s)
over_tally false = tt
over_tally true = tt

-- What a factor comes to can be a tally.
pub value_tally : (k : Factor) → Tally (value k)
value_tally (number s m) =
    ⊎_elim
    (λ h. subst Tally (sym (big s m h)) (over_tally s))
    (λ h. subst Tally (sym (small s m h)) tt)
    (cases_lt 2147483647 m)
value_tally unknown = tt
value_tally undefined = tt
