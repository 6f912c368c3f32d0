-- The reader accepts the encoding of every value of the type.
use Rattle.std.proofs.Common.{◌≡◌, ℕ, zero, suc, ◌+◌, ◌*◌, ◌/◌, ◌%◌, ◌<◌, ◌≤◌, Bool, true, false, ◌&&◌, ◌||◌, eqb, ltb, List, [], ◌∷◌, ◌++◌, length, drop, ℤ, pos, negsuc, ◌≤ℤ◌, Ok, sym, refl, ap, ◌∙◌, subst, ⊎_elim, append_assoc, arith, w32, to_z, of_z}
use borrow.Author.Differences.{ints}
use lib.Signed.{lt_z, le_z}
use Rattle.std.proofs.lemmas.Bool.{and_from, lt-ltb, eq-eqb}
use Rattle.numbers.specs.declared.number.Number.{Number}
use Rattle.numbers.specs.declared.fault.Fault.{Fault}
use Rattle.numbers.specs.declared.fault.Fault.TheVariants.{Undef, MissElt, PosOver, NegOver, Unknown, ZeroDivide}
use Rattle.numbers.specs.Faults.{code_of}
use Rattle.values.specs.declared.refusal.Refusal.TheVariants.{Strange, Clash}
use Rattle.values.specs.Values.{Value, boolean, integer, error, array, record_of, union, Values, none, ◌then◌, members, size, row_size, encode, encode_row, word, two_bytes, bit}
use Rattle.values.specs.Trees.{Tree, Trees, Basic, Indexed, Each, Of, RowOf, OneOf}
use Rattle.values.proofs.Forms.{Faulty, Any, form_boolean, form_integer, form_array, form_record, form_union}
use Rattle.values.proofs.Prefixes.{from_four, two_back, word_back, size_is_length}
use Rattle.value_reader.specs.Bytes.{byte, pair_at, word_at, two_fit, four_fit}
use Rattle.value_reader.specs.Reading.{Verdict, and_then, admitted, opens, after, boolean_at, integer_at, proper_at, ranged, indexed_at, repeated, array_at, record_at, union_at, count_of, read, reads, chosen}
use Rattle.value_reader.proofs.Drops.{onward, byte_in, byte_first, reaches}
use Rattle.value_reader.proofs.Inverse.{given_ok, own_opens, fault_opens}
use Rattle.value_reader.proofs.Sound.{Errors}

-- f accepts the value v wherever its bytes stand.
abbrev pub Takes : (ℕ → Verdict) → List ℕ → Value → Type 0
Takes f bs v = (at : ℕ) (rest : List ℕ) → drop at bs ≡ encode v ++ rest → f at ≡ Ok (at + size v)

admits : (arithmetic : Bool) (f : Fault) → Errors arithmetic f → admitted arithmetic (code_of f) ≡ true
admits true Undef h = refl
admits true MissElt h = refl
admits true PosOver h = refl
admits true NegOver h = refl
admits true Unknown h = refl
admits true ZeroDivide h = refl
admits false Undef h = refl
admits false MissElt h = refl
admits false PosOver h = elim h [ ]
admits false NegOver h = elim h [ ]
admits false Unknown h = elim h [ ]
admits false ZeroDivide h = elim h [ ]

-- An error of the type.
takes_fault : (own size' : ℕ) (arithmetic : Bool) (body : ℕ → Verdict) (bs : List ℕ) (f : Fault) → Errors arithmetic f → Takes (λ at. after (opens own size' arithmetic bs at) (body at)) bs (error f)
unfolding encode size
takes_fault own size' arithmetic body bs f h at rest e =
    let whole = reaches bs (0x52 ∷ code_of f ∷ rest) at e (omega arith) in
    let code : admitted arithmetic (byte bs (at + 1)) ≡ true = ap (admitted arithmetic) (byte_in bs _ at 1 e) ∙ admits arithmetic f h in
    ap (λ o. after o (body at)) (fault_opens own size' arithmetic bs at (byte_first bs _ at e) (omega (arith, whole)) code)

-- A record of the type's own kind, whose body is accepted.
own_body : (own size' : ℕ) (arithmetic : Bool) (body : Verdict) (bs : List ℕ) (at end : ℕ) → (own ≡ 0x52 → ⊥) → byte bs at ≡ own → at + suc size' ≤ length bs → body ≡ Ok end → after (opens own (suc size') arithmetic bs at) body ≡ Ok end
own_body own size' arithmetic body bs at end apart kind whole h =
    ap (λ o. after o body) (own_opens own (suc size') arithmetic bs at apart (omega arith) kind whole) ∙ h

bit_small : (b : Bool) → ltb (bit b) 2 ≡ true
bit_small true = refl
bit_small false = refl

takes_boolean : (bs : List ℕ) (b : Bool) → Takes (boolean_at bs) bs (boolean b)
unfolding encode size
takes_boolean bs b at rest e =
    let whole = reaches bs (0x50 ∷ bit b ∷ rest) at e (omega arith) in
    own_body 0x50 1 false _ bs at (at + 2) (λ z. let y : ⊥ = omega arith in y) (byte_first bs _ at e) (omega (arith, whole))
    (given_ok (ltb (byte bs (at + 1)) 2) (Strange at) (Ok (at + 2)) (ap (λ x. ltb x 2) (byte_in bs _ at 1 e) ∙ bit_small b))

-- A proper number, four bytes.
pub is_proper : (z : ℤ) → negsuc 2147483646 ≤ℤ z → lt_z (negsuc 2147483647) z ≡ true
is_proper z h = grind (arith, ints)

module _ (bs : List ℕ) (at : ℕ) (n : Number) (rest : List ℕ) (e : drop at bs ≡ word n.value ++ rest) where
  byte_fits : (i m : ℕ) → byte bs (at + i) ≡ m % 256 → ltb (byte bs (at + i)) 256 ≡ true
  byte_fits i m h = lt-ltb (byte bs (at + i)) 256 (omega arith)

  four_fits : four_fit bs at ≡ true
  four_fits =
      and_from _ _
      (and_from _ _ (lt-ltb (byte bs at) 256 (let z = byte_first bs _ at e in omega arith)) (byte_fits 1 _ (byte_in bs _ at 1 e)))
      (and_from _ _ (byte_fits 2 _ (byte_in bs _ at 2 e)) (byte_fits 3 _ (byte_in bs _ at 3 e)))

  pub word_is : word_at bs at ≡ n.value
  word_is =
      ap (λ a. to_z w32 (from_four a (byte bs (at + 1)) (byte bs (at + 2)) (byte bs (at + 3)))) (byte_first bs _ at e)
      ∙ ap (λ b. to_z w32 (from_four (of_z w32 n.value / 16777216 % 256) b (byte bs (at + 2)) (byte bs (at + 3)))) (byte_in bs _ at 1 e)
      ∙ ap (λ c. to_z w32 (from_four (of_z w32 n.value / 16777216 % 256) (of_z w32 n.value / 65536 % 256) c (byte bs (at + 3)))) (byte_in bs _ at 2 e)
      ∙ ap (λ d. to_z w32 (from_four (of_z w32 n.value / 16777216 % 256) (of_z w32 n.value / 65536 % 256) (of_z w32 n.value / 256 % 256) d)) (byte_in bs _ at 3 e)
      ∙ word_back n

  pub is_proper_at : proper_at bs at ≡ true
  is_proper_at = and_from (four_fit bs at) _ four_fits (ap (lt_z (negsuc 2147483647)) word_is ∙ is_proper n.value n.proper.0)

takes_integer : (bs : List ℕ) (n : Number) → Takes (integer_at bs) bs (integer n)
unfolding encode size
takes_integer bs n at rest e =
    let whole = reaches bs (0x51 ∷ word n.value ++ rest) at e (omega arith) in
    own_body 0x51 4 true _ bs at (at + 5) (λ z. let y : ⊥ = omega arith in y) (byte_first bs _ at e) (omega (arith, whole))
    (given_ok (proper_at bs (at + 1)) (Strange at) (Ok (at + 5)) (is_proper_at bs (at + 1) n rest (onward bs (0x51 ∷ []) _ at e)))

-- Two bytes.
module _ (bs : List ℕ) (at n : ℕ) (rest : List ℕ) (e : drop at bs ≡ two_bytes n ++ rest) where
  pub pair_is : n < 65536 → pair_at bs at ≡ n
  pair_is h = ap (λ a. a * 256 + byte bs (at + 1)) (byte_first bs _ at e) ∙ ap (λ b. n / 256 % 256 * 256 + b) (byte_in bs _ at 1 e) ∙ two_back n h

  pub two_fits : two_fit bs at ≡ true
  two_fits =
      and_from _ _ (lt-ltb (byte bs at) 256 (let z = byte_first bs _ at e in omega arith)) (lt-ltb (byte bs (at + 1)) 256 (let z = byte_in bs _ at 1 e in omega arith))

le_true : (a b : ℤ) → a ≤ℤ b → le_z a b ≡ true
le_true a b h = grind (arith, ints)

is_ranged : (low : ℤ) (count : ℕ) → Indexed low count → ranged low count ≡ true
is_ranged low zero h =
    and_from _ _ (ap (λ z. le_z z (pos 1) && le_z (pos 1) z) (h.empty refl)) (le_true _ _ h.within)
is_ranged low (suc n) h = and_from _ _ (ap (λ b. b || (le_z low (pos 1) && le_z (pos 1) low)) (lt-ltb 0 (suc n) (omega arith))) (le_true _ _ h.within)

-- Elements, one behind the other.
takes_each : (P : Value → Type 0) (f : ℕ → Verdict) (bs : List ℕ) → ((v : Value) → P v → Takes f bs v) → (vs : Values) → Each P vs
    → (at : ℕ) (rest : List ℕ) → drop at bs ≡ encode_row vs ++ rest → repeated (length (members vs)) f at ≡ Ok (at + row_size vs)
unfolding encode size
takes_each P f bs each none h at rest e = ap Ok (let z : at ≡ at + 0 = omega arith in z)
takes_each P f bs each (v then vs) h at rest e =
    let first : drop at bs ≡ encode v ++ (encode_row vs ++ rest) = e ∙ append_assoc (encode v) (encode_row vs) rest in
    let next : drop (at + size v) bs ≡ encode_row vs ++ rest = ap (λ n. drop (at + n) bs) (sym (size_is_length v)) ∙ onward bs (encode v) _ at first in
    ap (λ o. and_then o (repeated (length (members vs)) f)) (each v h.0 at _ first)
    ∙ takes_each P f bs each vs h.1 (at + size v) rest next
    ∙ ap Ok (let z : at + size v + row_size vs ≡ at + (size v + row_size vs) = omega arith in z)

takes_array : (t : Tree) (f : ℕ → Verdict) (bs : List ℕ) → ((v : Value) → Of t v → Takes f bs v)
    → (low : Number) (vs : Values) → Indexed low.value (length (members vs)) → Each (Of t) vs → Takes (array_at f bs) bs (array low vs)
unfolding encode size
takes_array t f bs each low vs i h at rest e =
    let n = length (members vs) in
    let whole = reaches bs (0x53 ∷ word low.value ++ (two_bytes n ++ (encode_row vs ++ rest))) at e (omega arith) in
    let five : at + 1 + 4 ≡ at + 5 = omega arith in
    let number : drop (at + 1) bs ≡ word low.value ++ (two_bytes n ++ (encode_row vs ++ rest)) = onward bs (0x53 ∷ []) _ at e in
    let count : drop (at + 5) bs ≡ two_bytes n ++ (encode_row vs ++ rest) = onward bs (0x53 ∷ word low.value) _ at e in
    let elements : drop (at + 7) bs ≡ encode_row vs ++ rest = onward bs (0x53 ∷ word low.value ++ two_bytes n) _ at e in
    let pair : pair_at bs (at + 5) ≡ n = pair_is bs (at + 5) n _ count i.few in
    let low_is : word_at bs (at + 1) ≡ low.value = word_is bs (at + 1) low _ number in
    let in_range : ranged (word_at bs (at + 1)) (pair_at bs (at + 1 + 4)) ≡ true =
    ap (λ m. ranged (word_at bs (at + 1)) (pair_at bs m)) five ∙ ap (ranged (word_at bs (at + 1))) pair ∙ ap (λ z. ranged z n) low_is ∙ is_ranged low.value n i in
    let indexed : indexed_at bs (at + 1) ≡ true =
    and_from (proper_at bs (at + 1)) _ (is_proper_at bs (at + 1) low _ number) (and_from (two_fit bs (at + 1 + 4)) _ (ap (two_fit bs) five ∙ two_fits bs (at + 5) n _ count) in_range) in
    own_body 0x53 6 false _ bs at (at + (7 + row_size vs)) (λ z. let y : ⊥ = omega arith in y) (byte_first bs _ at e) (omega (arith, whole))
    (given_ok (indexed_at bs (at + 1)) (Strange at) _ indexed
    ∙ ap (λ m. repeated m f (at + 7)) pair
    ∙ takes_each (Of t) f bs each vs h (at + 7) rest elements
    ∙ ap Ok (let z : at + 7 + row_size vs ≡ at + (7 + row_size vs) = omega arith in z))

takes_record : (count : ℕ) (f : ℕ → Verdict) (bs : List ℕ) (vs : Values) → length (members vs) ≡ count
    → ((at : ℕ) (rest : List ℕ) → drop at bs ≡ encode_row vs ++ rest → f at ≡ Ok (at + row_size vs)) → Takes (record_at count f bs) bs (record_of vs)
unfolding encode size
takes_record count f bs vs l each at rest e =
    let whole = reaches bs (0x54 ∷ length (members vs) ∷ (encode_row vs ++ rest)) at e (omega arith) in
    own_body 0x54 1 false _ bs at (at + (2 + row_size vs)) (λ z. let y : ⊥ = omega arith in y) (byte_first bs _ at e) (omega (arith, whole))
    (given_ok (eqb (byte bs (at + 1)) count) (Clash at) _ (eq-eqb _ _ (byte_in bs _ at 1 e ∙ l))
    ∙ each (at + 2) rest (onward bs (0x54 ∷ length (members vs) ∷ []) _ at e)
    ∙ ap Ok (let z : at + 2 + row_size vs ≡ at + (2 + row_size vs) = omega arith in z))

takes_union : (f : ℕ → ℕ → Verdict) (bs : List ℕ) (tag : ℕ) (v : Value)
    → ((at : ℕ) (rest : List ℕ) → drop (at + 2) bs ≡ encode v ++ rest → f tag at ≡ Ok (at + 2 + size v)) → Takes (union_at f bs) bs (union tag v)
unfolding encode size
takes_union f bs tag v each at rest e =
    let whole = reaches bs (0x55 ∷ tag ∷ (encode v ++ rest)) at e (omega arith) in
    own_body 0x55 1 false _ bs at (at + (2 + size v)) (λ z. let y : ⊥ = omega arith in y) (byte_first bs _ at e) (omega (arith, whole))
    (ap (λ x. f x at) (byte_in bs _ at 1 e)
    ∙ each at rest (onward bs (0x55 ∷ tag ∷ []) _ at e)
    ∙ ap Ok (let z : at + 2 + size v ≡ at + (2 + size v) = omega arith in z))

row_count : (ts : Trees) (vs : Values) → RowOf ts vs → length (members vs) ≡ count_of ts
unfolding Of
row_count Trees.none none h = refl
row_count Trees.none (v then vs) h = elim h [ ]
row_count (Trees.◌then◌ t ts) none h = elim h [ ]
row_count (Trees.◌then◌ t ts) (v then vs) h = ap suc (row_count ts vs h.1)

-- An error, or else the type's own form.
by_form : (f : ℕ → Verdict) (bs : List ℕ) (P : Fault → Type 0) (v : Value) → ((e : Fault) → P e → Takes f bs (error e)) → Faulty P v → Takes f bs v
by_form f bs P v takes x = subst (Takes f bs) (sym x.1) (takes x.0 x.2)

mutual
  unfolding Of encode size read

  pub complete_read : (t : Tree) (bs : List ℕ) (v : Value) → Of t v → Takes (read t bs) bs v
  complete_read Tree.boolean bs v h =
      ⊎_elim (by_form (boolean_at bs) bs Basic v (takes_fault 0x50 2 false _ bs)) (λ x. subst (Takes (boolean_at bs) bs) (sym x.1) (takes_boolean bs x.0)) (form_boolean v h)
  complete_read Tree.integer bs v h =
      ⊎_elim (by_form (integer_at bs) bs Any v (takes_fault 0x51 5 true _ bs)) (λ x. subst (Takes (integer_at bs) bs) (sym x.1) (takes_integer bs x.0)) (form_integer v h)
  complete_read (Tree.array t) bs v h =
      ⊎_elim (by_form (array_at (read t bs) bs) bs Basic v (takes_fault 0x53 7 false _ bs))
      (λ x. subst (Takes (array_at (read t bs) bs) bs) (sym x.2) (takes_array t (read t bs) bs (complete_read t bs) x.0 x.1 x.3 x.4)) (form_array t v h)
  complete_read (Tree.record_of ts) bs v h =
      ⊎_elim (by_form (record_at (count_of ts) (reads ts bs) bs) bs Basic v (takes_fault 0x54 2 false _ bs))
      (λ x. subst (Takes (record_at (count_of ts) (reads ts bs) bs) bs) (sym x.1) (takes_record (count_of ts) (reads ts bs) bs x.0 (row_count ts x.0 x.2) (complete_reads ts bs x.0 x.2))) (form_record ts v h)
  complete_read (Tree.union ts) bs v h =
      ⊎_elim (by_form (union_at (λ tag. chosen ts tag bs) bs) bs Basic v (takes_fault 0x55 2 false _ bs))
      (λ x. subst (Takes (union_at (λ tag. chosen ts tag bs) bs) bs) (sym x.2) (takes_union (λ tag. chosen ts tag bs) bs x.0 x.1 (complete_chosen ts x.0 bs x.1 x.3))) (form_union ts v h)

  complete_reads : (ts : Trees) (bs : List ℕ) (vs : Values) → RowOf ts vs → (at : ℕ) (rest : List ℕ) → drop at bs ≡ encode_row vs ++ rest → reads ts bs at ≡ Ok (at + row_size vs)
  complete_reads Trees.none bs none h at rest e = ap Ok (let z : at ≡ at + 0 = omega arith in z)
  complete_reads Trees.none bs (v then vs) h at rest e = elim h [ ]
  complete_reads (Trees.◌then◌ t ts) bs none h at rest e = elim h [ ]
  complete_reads (Trees.◌then◌ t ts) bs (v then vs) h at rest e =
      let first : drop at bs ≡ encode v ++ (encode_row vs ++ rest) = e ∙ append_assoc (encode v) (encode_row vs) rest in
      let next : drop (at + size v) bs ≡ encode_row vs ++ rest = ap (λ n. drop (at + n) bs) (sym (size_is_length v)) ∙ onward bs (encode v) _ at first in
      ap (λ o. and_then o (reads ts bs)) (complete_read t bs v h.0 at _ first)
      ∙ complete_reads ts bs vs h.1 (at + size v) rest next
      ∙ ap Ok (let z : at + size v + row_size vs ≡ at + (size v + row_size vs) = omega arith in z)

  complete_chosen : (ts : Trees) (tag : ℕ) (bs : List ℕ) (v : Value) → OneOf ts tag v → (at : ℕ) (rest : List ℕ) → drop (at + 2) bs ≡ encode v ++ rest → chosen ts tag bs at ≡ Ok (at + 2 + size v)
  complete_chosen Trees.none tag bs v h at rest e = elim h [ ]
  complete_chosen (Trees.◌then◌ t ts) zero bs v h at rest e = complete_read t bs v h (at + 2) rest e
  complete_chosen (Trees.◌then◌ t ts) (suc tag) bs v h at rest e = complete_chosen ts tag bs v h at rest e
