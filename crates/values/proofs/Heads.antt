-- A value as its head, the kind byte and the body, and its parts.
use Rattle.std.proofs.Common.{◌≡◌, ℕ, ◌+◌, ◌≤◌, List, [], ◌∷◌, ◌++◌, length, sym, refl, ap, append-nil, arith}
use Rattle.numbers.specs.Faults.{code_of}
use Rattle.values.specs.Values.{Value, boolean, integer, error, array, record_of, union, Values, none, ◌then◌, members, size, row_size, sizes, encode, encode_row, encodes, word, two_bytes, bit}

abbrev pub head : Value → List ℕ
head (boolean b) = 0x50 ∷ bit b ∷ []
head (integer n) = 0x51 ∷ word n.value
head (error f) = 0x52 ∷ code_of f ∷ []
head (array low vs) = 0x53 ∷ word low.value ++ two_bytes (length (members vs))
head (record_of vs) = 0x54 ∷ length (members vs) ∷ []
head (union tag v) = 0x55 ∷ tag ∷ []

abbrev pub parts : Value → List Value
parts (boolean b) = []
parts (integer n) = []
parts (error f) = []
parts (array low vs) = members vs
parts (record_of vs) = members vs
parts (union tag v) = v ∷ []

pub row_encodes : (vs : Values) → encode_row vs ≡ encodes (members vs)
unfolding encode encodes
row_encodes none = refl
row_encodes (v then vs) = ap (λ t. encode v ++ t) (row_encodes vs)

pub row_sizes : (vs : Values) → row_size vs ≡ sizes (members vs)
unfolding size sizes
row_sizes none = refl
row_sizes (v then vs) = ap (λ n. size v + n) (row_sizes vs)

pub encode_is : (v : Value) → encode v ≡ head v ++ encodes (parts v)
unfolding encode encodes
encode_is (boolean b) = refl
encode_is (integer n) = refl
encode_is (error f) = refl
encode_is (array low vs) = ap (λ t. head (array low vs) ++ t) (row_encodes vs)
encode_is (record_of vs) = ap (λ t. 0x54 ∷ length (members vs) ∷ t) (row_encodes vs)
encode_is (union tag v) = ap (λ t. 0x55 ∷ tag ∷ t) (sym (append-nil (encode v)))

pub size_is : (v : Value) → size v ≡ length (head v) + sizes (parts v)
unfolding size sizes
size_is (boolean b) = refl
size_is (integer n) = refl
size_is (error f) = refl
size_is (array low vs) = ap (λ n. 7 + n) (row_sizes vs)
size_is (record_of vs) = ap (λ n. 2 + n) (row_sizes vs)
size_is (union tag v) = omega arith

pub head_two : (v : Value) → 2 ≤ length (head v)
head_two (boolean b) = omega arith
head_two (integer n) = omega arith
head_two (error f) = omega arith
head_two (array low vs) = omega arith
head_two (record_of vs) = omega arith
head_two (union tag v) = omega arith
