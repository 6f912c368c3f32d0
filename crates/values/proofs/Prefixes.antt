-- The bytes of values are a prefix code.
use Rattle.std.proofs.Common.{◌≡◌, ℕ, zero, suc, ◌+◌, ◌*◌, ◌/◌, ◌%◌, ◌<◌, ◌≤◌, true, false, cond, eqb, List, [], ◌∷◌, ◌++◌, length, get_or, take, drop, ℤ, pos, negsuc, ◌≤ℤ◌, Some, None, Option, sym, refl, ap, ◌∙◌, subst, ⊎_elim, append_assoc, append-nil, arith, length-append, w32, SFits, to_z, of_z}
use native.Mathlib.Nat.{div-div-eq-div-mul}
use borrow.Author.Differences.{ints}
use Rattle.std.proofs.lemmas.Int.{to_z-of_z}
use Rattle.std.proofs.lemmas.List.{take_at, drop_at, get_or_append_left}
use Rattle.numbers.specs.declared.number.Number.{Number}
use Rattle.numbers.specs.declared.integer.Integer.{Integer}
use Rattle.numbers.specs.declared.integer.Integer.TheVariants as integers
use Rattle.numbers.specs.declared.fault.Fault.{Fault}
use Rattle.numbers.specs.declared.fault.Fault.TheVariants.{Undef, MissElt, PosOver, NegOver, Unknown, ZeroDivide}
use Rattle.numbers.specs.Faults.{code_of, of_code}
use Rattle.numbers.specs.Integers.{judged}
use Rattle.numbers.proofs.Judging.{judged_proper}
use Rattle.values.specs.Values.{Value, boolean, integer, error, array, record_of, union, Values, none, ◌then◌, members, row, sizes, encode, encodes}
use Rattle.values.specs.Encodings.{Encodings, PrefixCode, SizeIsLength, TwoAtLeast, FewValues}
use Rattle.values.specs.Trees.{Tree, Trees, Of, RowOf, OneOf, Each}
use Rattle.values.proofs.Forms.{Faulty, form_boolean, form_integer, form_array, form_record, form_union}
use Rattle.values.proofs.Heads.{head, parts, encode_is, size_is, head_two}

-- A number below 2 ^ 32 from its four bytes.
abbrev pub from_four : ℕ → ℕ → ℕ → ℕ → ℕ
from_four a b c d = a * 16777216 + b * 65536 + c * 256 + d

four_steps : (n x y z : ℕ) → n < 4294967296 → x ≡ n / 256 → y ≡ x / 256 → z ≡ y / 256 → from_four (z % 256) (y % 256) (x % 256) (n % 256) ≡ n
four_steps n x y z h p q r = omega arith

pub four_back : (n : ℕ) → n < 4294967296 → from_four (n / 16777216 % 256) (n / 65536 % 256) (n / 256 % 256) (n % 256) ≡ n
four_back n h = four_steps n (n / 256) (n / 65536) (n / 16777216) h refl (sym (div-div-eq-div-mul n 256 256)) (sym (div-div-eq-div-mul n 65536 256))

pub two_back : (n : ℕ) → n < 65536 → n / 256 % 256 * 256 + n % 256 ≡ n
two_back n h = omega arith

fits_within : (z : ℤ) → negsuc 2147483646 ≤ℤ z → z ≤ℤ pos 2147483647 → SFits w32 z
fits_within (pos n) low high = record { sfits = omega (arith, ints) }
fits_within (negsuc n) low high = record { sfits = omega (arith, ints) }

pub number_fits : (n : Number) → SFits w32 n.value
number_fits n = fits_within n.value n.proper.0 n.proper.1

bits_within : (z : ℤ) → negsuc 2147483646 ≤ℤ z → z ≤ℤ pos 2147483647 → of_z w32 z < 4294967296
bits_within (pos n) low high = omega (arith, ints)
bits_within (negsuc n) low high = omega (arith, ints)

pub number_bits : (n : Number) → of_z w32 n.value < 4294967296
number_bits n = bits_within n.value n.proper.0 n.proper.1

-- A number's four bytes, read as two's complement, give it back.
pub word_back : (n : Number) → to_z w32 (from_four (of_z w32 n.value / 16777216 % 256) (of_z w32 n.value / 65536 % 256) (of_z w32 n.value / 256 % 256) (of_z w32 n.value % 256)) ≡ n.value
word_back n = ap (to_z w32) (four_back (of_z w32 n.value) (number_bits n)) ∙ to_z-of_z w32 n.value (number_fits n)

nought : Number
nought = record { value = pos 0; proper = (omega (arith, ints), omega (arith, ints)) }

proper_part : Integer → Number
proper_part (integers.Proper n) = n
proper_part (integers.Error f) = nought

-- The number with a value.
unfoldable number : ℤ → Number
unfolding proper_part
number z = proper_part (judged z)

number_back : (n : Number) (z : ℤ) → z ≡ n.value → number z ≡ n
unfolding number proper_part
number_back n z e = ap proper_part (judged_proper z n (sym e))

fault_part : Option Fault → Fault
fault_part (Some f) = f
fault_part None = Undef

fault_back : (f : Fault) → fault_part (of_code (code_of f)) ≡ f
unfolding fault_part
fault_back Undef = refl
fault_back MissElt = refl
fault_back PosOver = refl
fault_back NegOver = refl
fault_back Unknown = refl
fault_back ZeroDivide = refl

-- The value that has a head and parts.
unfoldable build : List ℕ → List Value → Value
unfolding fault_part
build h ps =
    cond (eqb (get_or h 0 0) 0x50) (boolean (eqb (get_or h 1 0) 1))
    (cond (eqb (get_or h 0 0) 0x51) (integer (number (to_z w32 (from_four (get_or h 1 0) (get_or h 2 0) (get_or h 3 0) (get_or h 4 0)))))
    (cond (eqb (get_or h 0 0) 0x52) (error (fault_part (of_code (get_or h 1 0))))
    (cond (eqb (get_or h 0 0) 0x53) (array (number (to_z w32 (from_four (get_or h 1 0) (get_or h 2 0) (get_or h 3 0) (get_or h 4 0)))) (row ps))
    (cond (eqb (get_or h 0 0) 0x54) (record_of (row ps))
    (union (get_or h 1 0) (get_or ps 0 (boolean true)))))))

row_back : (vs : Values) → row (members vs) ≡ vs
row_back none = refl
row_back (v then vs) = ap (λ t. v then t) (row_back vs)

built : (v : Value) → build (head v) (parts v) ≡ v
unfolding build fault_part
built (boolean true) = refl
built (boolean false) = refl
built (integer n) = ap integer (number_back n _ (word_back n))
built (error f) = ap error (fault_back f)
built (array low vs) = ap (λ n. array n (row (members vs))) (number_back low _ (word_back low)) ∙ ap (array low) (row_back vs)
built (record_of vs) = ap record_of (row_back vs)
built (union tag v) = refl

-- Every array holds as many elements as two bytes count.
unfoldable mutual
  pub Counted : Value → Type 0
  Counted (boolean b) = Unit {0}
  Counted (integer n) = Unit {0}
  Counted (error f) = Unit {0}
  Counted (array low vs) = (length (members vs) < 65536) × CountedRow vs
  Counted (record_of vs) = CountedRow vs
  Counted (union tag v) = Counted v

  pub CountedRow : Values → Type 0
  CountedRow none = Unit {0}
  CountedRow (v then vs) = Counted v × CountedRow vs

unfoldable pub Counteds : List Value → Type 0
Counteds [] = Unit {0}
Counteds (v ∷ vs) = Counted v × Counteds vs

counted_members : (vs : Values) → CountedRow vs → Counteds (members vs)
unfolding Counted Counteds
counted_members none c = tt
counted_members (v then vs) c = (c.0, counted_members vs c.1)

pub counted_append : (vs ws : List Value) → Counteds vs → Counteds ws → Counteds (vs ++ ws)
unfolding Counteds
counted_append [] ws c d = d
counted_append (v ∷ vs) ws c d = (c.0, counted_append vs ws c.1 d)

pub counted_parts : (v : Value) → Counted v → Counteds (parts v)
unfolding Counted Counteds
counted_parts (boolean b) c = tt
counted_parts (integer n) c = tt
counted_parts (error f) c = tt
counted_parts (array low vs) c = counted_members vs c.1
counted_parts (record_of vs) c = counted_members vs c
counted_parts (union tag v) c = (c, tt)

-- A value of a type is counted.
counted_each : (P : Value → Type 0) → ((v : Value) → P v → Counted v) → (vs : Values) → Each P vs → CountedRow vs
unfolding Counted
counted_each P f none h = tt
counted_each P f (v then vs) h = (f v h.0, counted_each P f vs h.1)

counted_fault : (P : Fault → Type 0) (v : Value) → Faulty P v → Counted v
unfolding Counted
counted_fault P v h = subst Counted (sym h.1) tt

mutual
  unfolding Of Counted

  pub counted : (t : Tree) (v : Value) → Of t v → Counted v
  counted Tree.boolean v h = ⊎_elim (counted_fault _ v) (λ x. subst Counted (sym x.1) tt) (form_boolean v h)
  counted Tree.integer v h = ⊎_elim (counted_fault _ v) (λ x. subst Counted (sym x.1) tt) (form_integer v h)
  counted (Tree.array t) v h = ⊎_elim (counted_fault _ v) (λ x. subst Counted (sym x.2) (x.3.few, counted_each (Of t) (counted t) x.1 x.4)) (form_array t v h)
  counted (Tree.record_of ts) v h = ⊎_elim (counted_fault _ v) (λ x. subst Counted (sym x.1) (counted_row ts x.0 x.2)) (form_record ts v h)
  counted (Tree.union ts) v h = ⊎_elim (counted_fault _ v) (λ x. subst Counted (sym x.2) (counted_one ts x.0 x.1 x.3)) (form_union ts v h)

  counted_row : (ts : Trees) (vs : Values) → RowOf ts vs → CountedRow vs
  counted_row Trees.none none h = tt
  counted_row Trees.none (v then vs) h = elim h [ ]
  counted_row (Trees.◌then◌ t ts) none h = elim h [ ]
  counted_row (Trees.◌then◌ t ts) (v then vs) h = (counted t v h.0, counted_row ts vs h.1)

  counted_one : (ts : Trees) (tag : ℕ) (v : Value) → OneOf ts tag v → Counted v
  counted_one Trees.none tag v h = elim h [ ]
  counted_one (Trees.◌then◌ t ts) zero v h = counted t v h
  counted_one (Trees.◌then◌ t ts) (suc n) v h = counted_one ts n v h

-- How many bytes the head of a record takes, by its kind, and how many values stand in the record, by its bytes.
abbrev pub head_size : ℕ → ℕ
head_size kind = cond (eqb kind 0x51) 5 (cond (eqb kind 0x53) 7 2)

abbrev pub inner : List ℕ → ℕ
inner bs =
    cond (eqb (get_or bs 0 0) 0x53) (get_or bs 5 0 * 256 + get_or bs 6 0)
    (cond (eqb (get_or bs 0 0) 0x54) (get_or bs 1 0)
    (cond (eqb (get_or bs 0 0) 0x55) 1 0))

pub head_long : (v : Value) → length (head v) ≡ head_size (get_or (head v) 0 0)
head_long (boolean b) = refl
head_long (integer n) = refl
head_long (error f) = refl
head_long (array low vs) = refl
head_long (record_of vs) = refl
head_long (union tag v) = refl

pub head_inner : (v : Value) → Counted v → length (parts v) ≡ inner (head v)
unfolding Counted
head_inner (boolean b) c = refl
head_inner (integer n) c = refl
head_inner (error f) c = refl
head_inner (array low vs) c = sym (two_back (length (members vs)) c.0)
head_inner (record_of vs) c = refl
head_inner (union tag v) c = refl

pub split_same : {X : Type 0} (a b x y : List X) → length a ≡ length b → a ++ x ≡ b ++ y → (a ≡ b) × (x ≡ y)
split_same a b x y l e = (
  sym (take_at a x (length a) refl) ∙ ap (take (length a)) e ∙ take_at b y (length a) (sym l),
  sym (drop_at a x (length a) refl) ∙ ap (drop (length a)) e ∙ drop_at b y (length a) (sym l),
)

first_of : (v : Value) (bs : List ℕ) → get_or (head v ++ bs) 0 0 ≡ get_or (head v) 0 0
first_of v bs = get_or_append_left (head v) bs 0 0 (omega (arith, head_two v))

pub encodes_append : (vs ws : List Value) → encodes (vs ++ ws) ≡ encodes vs ++ encodes ws
unfolding encodes
encodes_append [] ws = refl
encodes_append (v ∷ vs) ws = ap (λ t. encode v ++ t) (encodes_append vs ws) ∙ sym (append_assoc (encode v) (encodes vs) (encodes ws))

pub sizes_append : (vs ws : List Value) → sizes (vs ++ ws) ≡ sizes vs + sizes ws
unfolding sizes
sizes_append [] ws = omega arith
sizes_append (v ∷ vs) ws = omega (arith, sizes_append vs ws)

-- Values as the first one's head, and then its parts and the others.
pub encodes_opened : (v : Value) (vs : List Value) (r : List ℕ) → encodes (v ∷ vs) ++ r ≡ head v ++ (encodes (parts v ++ vs) ++ r)
unfolding encodes
encodes_opened v vs r =
    ap (λ t. (t ++ encodes vs) ++ r) (encode_is v)
    ∙ ap (λ t. t ++ r) (append_assoc (head v) (encodes (parts v)) (encodes vs))
    ∙ append_assoc (head v) (encodes (parts v) ++ encodes vs) r
    ∙ ap (λ t. head v ++ (t ++ r)) (sym (encodes_append (parts v) vs))

pub sizes_opened : (v : Value) (vs : List Value) → sizes (v ∷ vs) ≡ length (head v) + sizes (parts v ++ vs)
unfolding sizes
sizes_opened v vs = omega (arith, size_is v, sizes_append (parts v) vs)

same_value : (v w : Value) → head v ≡ head w → parts v ≡ parts w → v ≡ w
same_value v w h p = sym (built v) ∙ ap (λ t. build t (parts v)) h ∙ ap (build (head w)) p ∙ built w

same_heads : (v w : Value) (x y : List ℕ) → head v ++ x ≡ head w ++ y → (head v ≡ head w) × (x ≡ y)
same_heads v w x y e =
    let k : get_or (head v) 0 0 ≡ get_or (head w) 0 0 = sym (first_of v x) ∙ ap (λ t. get_or t 0 0) e ∙ first_of w y in
    split_same (head v) (head w) x y (head_long v ∙ ap head_size k ∙ sym (head_long w)) e

-- Two rows of as many values whose bytes begin alike are the same; by the number of bytes.
pub same_values : (n : ℕ) (vs ws : List Value) (r s : List ℕ) → sizes vs ≤ n → length vs ≡ length ws → Counteds vs → Counteds ws → encodes vs ++ r ≡ encodes ws ++ s → (vs ≡ ws) × (r ≡ s)
unfolding Counteds encodes
same_values n [] [] r s h l c d e = (refl, e)
same_values n [] (w ∷ ws) r s h l c d e = absurd (let z : ⊥ = omega arith in z)
same_values n (v ∷ vs) [] r s h l c d e = absurd (let z : ⊥ = omega arith in z)
same_values zero (v ∷ vs) (w ∷ ws) r s h l c d e = absurd (let z : ⊥ = omega (arith, sizes_opened v vs, head_two v) in z)
same_values (suc n) (v ∷ vs) (w ∷ ws) r s h l c d e =
    let o = same_heads v w _ _ (sym (encodes_opened v vs r) ∙ e ∙ encodes_opened w ws s) in
    let m : length (parts v) ≡ length (parts w) = head_inner v c.0 ∙ ap inner o.0 ∙ sym (head_inner w d.0) in
    let k = same_values n (parts v ++ vs) (parts w ++ ws) r s
    (omega (arith, sizes_opened v vs, head_two v))
    (length-append (parts v) vs ∙ omega arith ∙ sym (length-append (parts w) ws))
    (counted_append (parts v) vs (counted_parts v c.0) c.1)
    (counted_append (parts w) ws (counted_parts w d.0) d.1) o.1 in
    let p = split_same (parts v) (parts w) vs ws m k.0 in
    (ap (λ x. x ∷ vs) (same_value v w o.0 p.0) ∙ ap (λ xs. w ∷ xs) p.1, k.1)

encodes_one : (v : Value) (r : List ℕ) → encodes (v ∷ []) ++ r ≡ encode v ++ r
unfolding encodes
encodes_one v r = ap (λ t. t ++ r) (append-nil (encode v))

pub prefix_code : PrefixCode
unfolding Counteds
prefix_code t u v w r s h k e =
    let o = same_values (sizes (v ∷ [])) (v ∷ []) (w ∷ []) r s (omega arith) refl (counted t v h, tt) (counted u w k, tt) (encodes_one v r ∙ e ∙ sym (encodes_one w s)) in
    (ap (λ vs. get_or vs 0 v) o.0, o.1)

-- A value is written in as many bytes as its size says; by the number of bytes.
sizes_long : (n : ℕ) (vs : List Value) → sizes vs ≤ n → length (encodes vs) ≡ sizes vs
unfolding encodes sizes
sizes_long n [] h = refl
sizes_long zero (v ∷ vs) h = absurd (let z : ⊥ = omega (arith, size_is v, head_two v) in z)
sizes_long (suc n) (v ∷ vs) h =
    let e = ap length (sym (append-nil (encodes (v ∷ vs))) ∙ encodes_opened v vs [] ∙ ap (λ t. head v ++ t) (append-nil (encodes (parts v ++ vs)))) in
    e ∙ length-append (head v) (encodes (parts v ++ vs)) ∙ ap (λ k. length (head v) + k) (sizes_long n (parts v ++ vs) (omega (arith, sizes_opened v vs, head_two v))) ∙ sym (sizes_opened v vs)

pub sizes_is_length : (vs : List Value) → length (encodes vs) ≡ sizes vs
sizes_is_length vs = sizes_long (sizes vs) vs (omega arith)

pub size_is_length : SizeIsLength
unfolding encodes sizes
size_is_length v = ap length (sym (append-nil (encode v))) ∙ sizes_is_length (v ∷ []) ∙ omega arith

pub two_at_least : TwoAtLeast
two_at_least v = omega (arith, size_is v, head_two v)

pub two_each : (vs : List Value) → 2 * length vs ≤ sizes vs
unfolding sizes
two_each [] = omega arith
two_each (v ∷ vs) = omega (arith, two_at_least v, two_each vs)

pub few_values : FewValues
few_values vs h = omega (arith, two_each vs)

pub encodings : Encodings
encodings = record { prefix = prefix_code; long = size_is_length; two = two_at_least; few = few_values }
