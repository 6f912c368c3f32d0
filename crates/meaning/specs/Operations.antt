-- What each operation gives for values.
use Rattle.std.specs.Prelude.{ℕ, Bool, true, false, length, pos, ◌+ℤ◌, ◌-ℤ◌}
use Rattle.numbers.specs.declared.number.Number.{Number}
use Rattle.numbers.specs.declared.fault.Fault.{Fault}
use Rattle.numbers.specs.declared.fault.Fault.TheVariants.{Undef, MissElt, PosOver, NegOver, Unknown, ZeroDivide}
use Rattle.numbers.specs.declared.fault.BasicFault.TheVariants as basic
use Rattle.numbers.specs.declared.integer.Integer.{Integer}
use Rattle.numbers.specs.declared.integer.Integer.TheVariants as integers
use Rattle.numbers.specs.declared.boolean.Boolean.{Boolean}
use Rattle.numbers.specs.declared.boolean.Boolean.TheVariants as booleans
use Rattle.numbers.specs.Faults.{same_fault}
use Rattle.numbers.specs.Integers.{judged}
use Rattle.numbers.specs.Booleans.{both, either, inverse}
use Rattle.arithmetic.specs.Arithmetic.{sum, difference, product, quotient, modulus, negation, magnitude}
use Rattle.ordering.specs.Ranking.{maximum, minimum}
use Rattle.ordering.specs.Comparing.{less, at_most, greater, at_least, equal, unequal}
use Rattle.values.specs.Values.{Value, members, integer_value, boolean_value}
use Rattle.language.specs.declared.operation.Unary.{Unary}
use Rattle.language.specs.declared.operation.Unary.TheVariants.{Negate, Abs, Not, IsFault, IsError, Lowest, Highest, Size}
use Rattle.language.specs.declared.operation.Binary.{Binary}
use Rattle.language.specs.declared.operation.Binary.TheVariants.{Plus, Minus, Times, Divide, Modulo, Max, Min, Equal, Unequal, Less, AtMost, Greater, AtLeast, And, Or}

abbrev pub undef : Value
undef = Value.error Undef

-- A value as an integer; what is none is undef.
abbrev pub as_integer : Value → Integer
as_integer (Value.boolean b) = integers.Error Undef
as_integer (Value.integer n) = integers.Proper n
as_integer (Value.error f) = integers.Error f
as_integer (Value.array low vs) = integers.Error Undef
as_integer (Value.record_of vs) = integers.Error Undef
as_integer (Value.union tag v) = integers.Error Undef

-- A value as a boolean; what is none is undef.
abbrev pub fault_as_boolean : Fault → Boolean
fault_as_boolean Undef = booleans.Error basic.Undef
fault_as_boolean MissElt = booleans.Error basic.MissElt
fault_as_boolean PosOver = booleans.Error basic.Undef
fault_as_boolean NegOver = booleans.Error basic.Undef
fault_as_boolean Unknown = booleans.Error basic.Undef
fault_as_boolean ZeroDivide = booleans.Error basic.Undef

abbrev pub as_boolean : Value → Boolean
as_boolean (Value.boolean b) = booleans.Proper b
as_boolean (Value.integer n) = booleans.Error basic.Undef
as_boolean (Value.error f) = fault_as_boolean f
as_boolean (Value.array low vs) = booleans.Error basic.Undef
as_boolean (Value.record_of vs) = booleans.Error basic.Undef
as_boolean (Value.union tag v) = booleans.Error basic.Undef

-- Whether a value is an error that passes a test. A record, array or union that holds errors is none.
abbrev pub is_error_that : (Fault → Bool) → Value → Bool
is_error_that passes (Value.boolean b) = false
is_error_that passes (Value.integer n) = false
is_error_that passes (Value.error f) = passes f
is_error_that passes (Value.array low vs) = false
is_error_that passes (Value.record_of vs) = false
is_error_that passes (Value.union tag v) = false

-- What an array's low index and number of elements tell; of anything else undef.
unfoldable pub array_fact : (Number → ℕ → Integer) → Value → Value
array_fact fact (Value.boolean b) = undef
array_fact fact (Value.integer n) = undef
array_fact fact (Value.error f) = undef
array_fact fact (Value.array low vs) = integer_value (fact low (length (members vs)))
array_fact fact (Value.record_of vs) = undef
array_fact fact (Value.union tag v) = undef

-- The operations with one operand.
unfoldable pub unary_result : Unary → Value → Value
unary_result Negate v = integer_value (negation (as_integer v))
unary_result Abs v = integer_value (magnitude (as_integer v))
unary_result Not v = boolean_value (inverse (as_boolean v))
unary_result (IsFault f) v = Value.boolean (is_error_that (λ g. same_fault g f) v)
unary_result IsError v = Value.boolean (is_error_that (λ g. true) v)
unary_result Lowest v = array_fact (λ low n. integers.Proper low) v
unary_result Highest v = array_fact (λ low n. judged (low.value +ℤ pos n -ℤ pos 1)) v
unary_result Size v = array_fact (λ low n. judged (pos n)) v

-- The operations with two operands.
abbrev pub on_integers : (Integer → Integer → Integer) → Value → Value → Value
on_integers f v w = integer_value (f (as_integer v) (as_integer w))

abbrev pub comparing : (Integer → Integer → Boolean) → Value → Value → Value
comparing f v w = boolean_value (f (as_integer v) (as_integer w))

abbrev pub on_booleans : (Boolean → Boolean → Boolean) → Value → Value → Value
on_booleans f v w = boolean_value (f (as_boolean v) (as_boolean w))

unfoldable pub binary_result : Binary → Value → Value → Value
binary_result Plus = on_integers sum
binary_result Minus = on_integers difference
binary_result Times = on_integers product
binary_result Divide = on_integers quotient
binary_result Modulo = on_integers modulus
binary_result Max = on_integers maximum
binary_result Min = on_integers minimum
binary_result Equal = comparing equal
binary_result Unequal = comparing unequal
binary_result Less = comparing less
binary_result AtMost = comparing at_most
binary_result Greater = comparing greater
binary_result AtLeast = comparing at_least
binary_result And = on_booleans both
binary_result Or = on_booleans either

-- Names all that an operation is worked out by: a proof that unfolds it can work one out.
unfoldable pub operating : Unit {0}
unfolding array_fact unary_result binary_result
operating = tt
