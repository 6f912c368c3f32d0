-- The refusals' numbers, offsets, words and texts.
use Rattle.std.specs.Prelude.{ℕ, List, ◌++◌, Some, None, codes, decimal, Option}
use Rattle.values.specs.declared.refusal.Refusal.{Refusal}
use Rattle.values.specs.declared.refusal.Refusal.TheVariants.{Cut, Strange, Deep, Twin, Undeclared, Clash, Pending, Absent, Allowance, Spent, Full, Spoilt, Foreign, Oversize, Memory}

-- The number of a refusal, 1 to 14. Want of memory is no refusal of the language, and has none.
abbrev pub number_of : Refusal → Option ℕ
number_of (Cut at) = Some 1
number_of (Strange at) = Some 2
number_of (Deep at) = Some 3
number_of (Twin at) = Some 4
number_of (Undeclared at) = Some 5
number_of (Clash at) = Some 6
number_of Pending = Some 7
number_of Absent = Some 8
number_of Allowance = Some 9
number_of Spent = Some 10
number_of Full = Some 11
number_of Spoilt = Some 12
number_of Foreign = Some 13
number_of Oversize = Some 14
number_of Memory = None

-- The offset that a refusal carries.
abbrev pub offset_of : Refusal → Option ℕ
offset_of (Cut at) = Some at
offset_of (Strange at) = Some at
offset_of (Deep at) = Some at
offset_of (Twin at) = Some at
offset_of (Undeclared at) = Some at
offset_of (Clash at) = Some at
offset_of Pending = None
offset_of Absent = None
offset_of Allowance = None
offset_of Spent = None
offset_of Full = None
offset_of Spoilt = None
offset_of Foreign = None
offset_of Oversize = None
offset_of Memory = None

-- The word of a refusal.
abbrev pub word_of : Refusal → List ℕ
word_of (Cut at) = codes "cut"
word_of (Strange at) = codes "strange"
word_of (Deep at) = codes "deep"
word_of (Twin at) = codes "twin"
word_of (Undeclared at) = codes "undeclared"
word_of (Clash at) = codes "clash"
word_of Pending = codes "pending"
word_of Absent = codes "absent"
word_of Allowance = codes "allowance"
word_of Spent = codes "spent"
word_of Full = codes "full"
word_of Spoilt = codes "spoilt"
word_of Foreign = codes "foreign"
word_of Oversize = codes "oversize"
word_of Memory = codes "out of memory"

-- A word with its number and its offset, as far as there are any.
abbrev pub text : List ℕ → Option ℕ → Option ℕ → List ℕ
text word None offset = word
text word (Some n) None = word ++ codes " (" ++ decimal n ++ codes ")"
text word (Some n) (Some at) = word ++ codes " (" ++ decimal n ++ codes ") at offset " ++ decimal at

-- What a refusal prints.
abbrev pub text_of : Refusal → List ℕ
text_of e = text (word_of e) (number_of e) (offset_of e)
