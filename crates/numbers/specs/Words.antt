-- How error values, integers and booleans are written.
use Rattle.std.specs.Prelude.{ℕ, Bool, true, false, List, codes}
use Rattle.std.specs.Fmt.{signed_decimal}
use Rattle.numbers.specs.declared.fault.Fault.{Fault}
use Rattle.numbers.specs.declared.fault.Fault.TheVariants.{Undef, MissElt, PosOver, NegOver, Unknown, ZeroDivide}
use Rattle.numbers.specs.declared.integer.Integer.{Integer}
use Rattle.numbers.specs.declared.integer.Integer.TheVariants as integers
use Rattle.numbers.specs.declared.boolean.Boolean.{Boolean}
use Rattle.numbers.specs.declared.boolean.Boolean.TheVariants as booleans
use Rattle.numbers.specs.Faults.{basic_of}

-- The word of an error value.
abbrev pub word_of : Fault → List ℕ
word_of Undef = codes "undef"
word_of MissElt = codes "miss_elt"
word_of PosOver = codes "pos_over"
word_of NegOver = codes "neg_over"
word_of Unknown = codes "unknown"
word_of ZeroDivide = codes "zero_divide"

-- The word of a truth value.
abbrev pub truth_word : Bool → List ℕ
truth_word true = codes "true"
truth_word false = codes "false"

-- A proper number in decimal, or the word of an error value.
abbrev pub integer_text : Integer → List ℕ
integer_text (integers.Proper n) = signed_decimal n.value
integer_text (integers.Error f) = word_of f

abbrev pub boolean_text : Boolean → List ℕ
boolean_text (booleans.Proper b) = truth_word b
boolean_text (booleans.Error f) = word_of (basic_of f)
