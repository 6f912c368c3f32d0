-- Bytes as hexadecimal text.
use Rattle.std.specs.Prelude.{◌≡◌, ℕ, ◌+◌, ◌-◌, ◌*◌, cond, ◌&&◌, List, [], ◌∷◌, ◌++◌, Some, None, codes, Option, nat_le}
use Rattle.std.specs.Str.{bytes_eq}
use Rattle.value_text.specs.declared.problem.Problem.{Problem}
use Rattle.value_text.specs.declared.problem.Problem.TheVariants.{OddDigits, NoHexDigit, NoRow, NoMembers, NotLower, TooManyRows, Memory}

-- The value of a digit, in either case.
abbrev pub digit_value : ℕ → Option ℕ
digit_value b =
    cond (nat_le 48 b && nat_le b 57) (Some (b - 48))
    (cond (nat_le 97 b && nat_le b 102) (Some (b - 97 + 10))
    (cond (nat_le 65 b && nat_le b 70) (Some (b - 65 + 10))
    None))

-- Two digits are a byte, the high one first.
abbrev pub byte_of : Option ℕ → Option ℕ → Option ℕ
byte_of (Some h) (Some l) = Some (h * 16 + l)
byte_of (Some h) None = None
byte_of None l = None

-- Bytes in front of others.
abbrev pub before : List ℕ → Option (List ℕ) → Option (List ℕ)
before xs (Some ys) = Some (xs ++ ys)
before xs None = None

abbrev pub first_byte : Option ℕ → Option (List ℕ) → Option (List ℕ)
first_byte (Some b) rest = before (b ∷ []) rest
first_byte None rest = None

-- The bytes that a text of digits writes; none where a digit is missing or is none.
unfoldable pub hex : List ℕ → Option (List ℕ)
hex [] = Some []
hex (h ∷ []) = None
hex (h ∷ (l ∷ rest)) = first_byte (byte_of (digit_value h) (digit_value l)) (hex rest)

-- `-` stands for no bytes.
abbrev pub hex_text : List ℕ → Option (List ℕ)
hex_text text = cond (bytes_eq text (codes "-")) (Some []) (hex text)

-- Want of memory says nothing of the text; any other problem says that it writes no bytes.
abbrev pub Refuses : Problem → Option (List ℕ) → Type 0
Refuses OddDigits o = o ≡ None
Refuses (NoHexDigit place) o = o ≡ None
Refuses (NoRow place) o = o ≡ None
Refuses (NoMembers place) o = o ≡ None
Refuses (NotLower place) o = o ≡ None
Refuses TooManyRows o = o ≡ None
Refuses Memory o = Unit {0}
