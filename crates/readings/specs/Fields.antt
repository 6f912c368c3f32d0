-- What a field of a table of readings says.
use Rattle.std.specs.Prelude.{◌≡◌, ℕ, Bool, cond, ◌||◌, List, [], Some, None, codes, Option, MatchOption, FitsSigned}
use Rattle.std.specs.Int.{w64}
use Rattle.std.specs.Str.Parse.{IsNumeral, without_leading_sign, signed_digits_value}
use Rattle.std.specs.Str.{bytes_eq}
use Rattle.numbers.specs.declared.fault.Fault.{Fault}
use Rattle.numbers.specs.declared.fault.Fault.TheVariants.{Undef, MissElt, PosOver, NegOver, Unknown, ZeroDivide}
use Rattle.numbers.specs.declared.integer.Integer.{Integer}
use Rattle.numbers.specs.declared.integer.Integer.TheVariants.{Error}
use Rattle.numbers.specs.Integers.{judged}

-- An empty field is a missed point, and so are `miss` and `miss_elt`.
abbrev pub missed : List ℕ → Bool
missed text = bytes_eq text [] || bytes_eq text (codes "miss") || bytes_eq text (codes "miss_elt")

-- Any other error value goes by its word.
abbrev pub error_word : List ℕ → Option Fault
error_word text =
    cond (bytes_eq text (codes "undef")) (Some Undef)
    (cond (bytes_eq text (codes "pos_over")) (Some PosOver)
    (cond (bytes_eq text (codes "neg_over")) (Some NegOver)
    (cond (bytes_eq text (codes "unknown")) (Some Unknown)
    (cond (bytes_eq text (codes "zero_divide")) (Some ZeroDivide)
    None))))

abbrev pub word_fault : List ℕ → Option Fault
word_fault text = cond (missed text) (Some MissElt) (error_word text)

-- A decimal numeral, with a sign or without, that 64 bits hold.
abbrev pub IsNumber : List ℕ → Type 0
IsNumber text = IsNumeral 10 (without_leading_sign text) × FitsSigned w64 (signed_digits_value 10 text)

-- A number is judged against the range of integers, and nothing else is one.
abbrev pub ReadsNumber : List ℕ → Option Integer → Type 0
ReadsNumber text r = MatchOption r (IsNumber text → ⊥) (λ i. IsNumber text × (i ≡ judged (signed_digits_value 10 text)))

-- A reading: an error value by its word, else a number.
abbrev pub Reads : List ℕ → Option Integer → Type 0
Reads text r = MatchOption (word_fault text) (ReadsNumber text r) (λ f. r ≡ Some (Error f))
