-- What the reader accepts is the encoding of a value of the type.
use Rattle.std.proofs.Common.{◌≡◌, ℕ, zero, suc, ◌+◌, ◌*◌, ◌<◌, ◌≤◌, Bool, true, false, ◌&&◌, ◌||◌, eqb, ltb, leb, List, [], ◌∷◌, ◌++◌, length, drop, ℤ, pos, ◌+ℤ◌, Some, Ok, sym, refl, ap, ◌∙◌, subst, ⊎_elim, append_assoc, arith, length-append}
use borrow.Author.Differences.{ints}
use lib.Signed.{le_z}
use Rattle.std.proofs.lemmas.Bool.{and_parts, or_cases, ltb-true, leb-true, eqb-true}
use Rattle.numbers.specs.declared.number.Number.{Number}
use Rattle.numbers.specs.declared.fault.Fault.{Fault}
use Rattle.numbers.specs.declared.fault.Fault.TheVariants.{Undef, MissElt, PosOver, NegOver, Unknown, ZeroDivide}
use Rattle.numbers.specs.Faults.{code_of}
use Rattle.values.specs.declared.refusal.Refusal.TheVariants.{Strange, Clash}
use Rattle.values.specs.Values.{Value, boolean, integer, error, array, record_of, union, Values, none, ◌then◌, members, encode, encode_row, word, two_bytes, bit}
use Rattle.values.specs.Trees.{Tree, Trees, Basic, Indexed, Each, Of, RowOf, OneOf}
use Rattle.value_reader.specs.Bytes.{byte, pair_at, word_at, two_fit}
use Rattle.value_reader.specs.Reading.{Verdict, admitted, opens, after, boolean_at, integer_at, proper_at, ranged, indexed_at, repeated, array_at, record_at, union_at, count_of, read, reads, chosen}
use Rattle.value_reader.proofs.Drops.{Span, onward, one_drop, two_drop, four_drop, two_of, proper_number}
use Rattle.value_reader.proofs.Inverse.{given_inv, then_inv, after_inv, opens_own, opens_fault}

-- A value that P admits stands there.
abbrev pub Found : (Value → Type 0) → List ℕ → ℕ → ℕ → Type 0
Found P bs at end = (v : Value) × P v × Span bs at (encode v) end

-- Two spans, one behind the other.
pub join : (bs xs ys : List ℕ) (at mid end : ℕ) → Span bs at xs mid → Span bs mid ys end → Span bs at (xs ++ ys) end
join bs xs ys at mid end s t =
    let back : s.rest ≡ ys ++ t.rest = sym (onward bs xs s.rest at s.stands) ∙ ap (λ n. drop n bs) (sym s.ends) ∙ t.stands in
    record {
      rest = t.rest;
      stands = s.stands ∙ ap (λ r. xs ++ r) back ∙ sym (append_assoc xs ys t.rest);
      ends = omega (arith, s.ends, t.ends, length-append xs ys);
    }

-- The bytes that begin at an offset.
pub begins : (bs xs : List ℕ) (at : ℕ) → drop at bs ≡ xs ++ drop (at + length xs) bs → Span bs at xs (at + length xs)
begins bs xs at e = record { rest = drop (at + length xs) bs; stands = e; ends = refl }

-- A code that the type admits is an error of the type.
fault_basic : (code : ℕ) → 1 ≤ code → code ≤ 2 → (f : Fault) × (code ≡ code_of f) × Basic f
fault_basic zero h k = absurd (let z : ⊥ = omega arith in z)
fault_basic (suc zero) h k = (Undef, refl, tt)
fault_basic (suc (suc zero)) h k = (MissElt, refl, tt)
fault_basic (suc (suc (suc n))) h k = absurd (let z : ⊥ = omega arith in z)

fault_any : (code : ℕ) → 1 ≤ code → code ≤ 6 → (f : Fault) × (code ≡ code_of f)
fault_any zero h k = absurd (let z : ⊥ = omega arith in z)
fault_any (suc zero) h k = (Undef, refl)
fault_any (suc (suc zero)) h k = (MissElt, refl)
fault_any (suc (suc (suc zero))) h k = (PosOver, refl)
fault_any (suc (suc (suc (suc zero)))) h k = (NegOver, refl)
fault_any (suc (suc (suc (suc (suc zero))))) h k = (Unknown, refl)
fault_any (suc (suc (suc (suc (suc (suc zero)))))) h k = (ZeroDivide, refl)
fault_any (suc (suc (suc (suc (suc (suc (suc n))))))) h k = absurd (let z : ⊥ = omega arith in z)

-- The errors of a type.
abbrev pub Errors : Bool → Fault → Type 0
Errors true f = Unit {0}
Errors false f = Basic f

fault_of : (arithmetic : Bool) (code : ℕ) → admitted arithmetic code ≡ true → (f : Fault) × (code ≡ code_of f) × Errors arithmetic f
fault_of true code h =
    let p = and_parts (leb 1 code) (leb code 6) h in
    let f = fault_any code (leb-true 1 code p.0) (leb-true code 6 p.1) in
    (f.0, f.1, tt)
fault_of false code h =
    let p = and_parts (leb 1 code) (leb code 2) h in
    fault_basic code (leb-true 1 code p.0) (leb-true code 2 p.1)

-- Two bytes at an offset.
pub two_span : (bs : List ℕ) (at a b : ℕ) → at + 2 ≤ length bs → byte bs at ≡ a → byte bs (at + 1) ≡ b → Span bs at (a ∷ b ∷ []) (at + 2)
two_span bs at a b h p q = begins bs (a ∷ b ∷ []) at (two_drop bs at h ∙ ap (λ x. x ∷ byte bs (at + 1) ∷ drop (at + 2) bs) p ∙ ap (λ x. a ∷ x ∷ drop (at + 2) bs) q)

-- An error value is found, or the body goes on.
module _ (P : Value → Type 0) (own size : ℕ) (arithmetic : Bool) (bs : List ℕ) (at end : ℕ) (body : Verdict)
    (errors : (f : Fault) → Errors arithmetic f → P (error f))
    (own_body : byte bs at ≡ own → at + size ≤ length bs → body ≡ Ok end → Found P bs at end) where
  found_fault : opens own size arithmetic bs at ≡ Ok (Some end) → Found P bs at end
  unfolding encode
  found_fault h =
      let o = opens_fault own size arithmetic bs at end h in
      let f = fault_of arithmetic (byte bs (at + 1)) o.2 in
      (error f.0, errors f.0 f.2, subst (Span bs at (0x52 ∷ code_of f.0 ∷ [])) (sym o.3) (two_span bs at 0x52 (code_of f.0) o.1 o.0 f.1))

  pub sound_after : after (opens own size arithmetic bs at) body ≡ Ok end → Found P bs at end
  sound_after h =
      ⊎_elim found_fault
      (λ k. let o = opens_own own size arithmetic bs at k.0 in own_body o.1 o.2 k.1)
      (after_inv (opens own size arithmetic bs at) body end h)

truth_of : (b : ℕ) → b < 2 → (x : Bool) × (b ≡ bit x)
truth_of zero h = (false, refl)
truth_of (suc zero) h = (true, refl)
truth_of (suc (suc n)) h = absurd (let z : ⊥ = omega arith in z)

-- A tail call's end, as the equation that Ok gives.
same_end : (a b : ℕ) → ◌≡◌ {A = Verdict} (Ok a) (Ok b) → b ≡ a
same_end a b e = cc

sound_boolean : (bs : List ℕ) (at end : ℕ) → boolean_at bs at ≡ Ok end → Found (Of Tree.boolean) bs at end
unfolding Of encode
sound_boolean bs at end h =
    sound_after (Of Tree.boolean) 0x50 2 false bs at end _ (λ f k. k)
    (λ kind whole k.
    let g = given_inv (ltb (byte bs (at + 1)) 2) (Strange at) (Ok (at + 2)) end k in
    let x = truth_of (byte bs (at + 1)) (ltb-true (byte bs (at + 1)) 2 g.0) in
    (boolean x.0, tt, subst (Span bs at (0x50 ∷ bit x.0 ∷ [])) (sym (same_end (at + 2) end g.1)) (two_span bs at 0x50 (bit x.0) whole kind x.1)))
    h

-- A kind byte, and then a number.
pub number_span : (bs : List ℕ) (at kind : ℕ) (n : Number) → byte bs at ≡ kind → at + 5 ≤ length bs
    → word n.value ≡ byte bs (at + 1) ∷ byte bs (at + 1 + 1) ∷ byte bs (at + 1 + 2) ∷ byte bs (at + 1 + 3) ∷ []
    → Span bs at (kind ∷ word n.value) (at + 5)
number_span bs at kind n k h w = record {
  rest = drop (at + 1 + 4) bs;
  stands = one_drop bs at (omega arith) ∙ ap (λ x. x ∷ drop (at + 1) bs) k ∙ ap (λ t. kind ∷ t) (four_drop bs (at + 1) (omega arith)) ∙ ap (λ t. kind ∷ (t ++ drop (at + 1 + 4) bs)) (sym w);
  ends = refl;
}

sound_integer : (bs : List ℕ) (at end : ℕ) → integer_at bs at ≡ Ok end → Found (Of Tree.integer) bs at end
unfolding Of encode
sound_integer bs at end h =
    sound_after (Of Tree.integer) 0x51 5 true bs at end _ (λ f k. tt)
    (λ kind whole k.
    let g = given_inv (proper_at bs (at + 1)) (Strange at) (Ok (at + 5)) end k in
    let n = proper_number bs (at + 1) g.0 in
    (integer n.0, tt, subst (Span bs at (0x51 ∷ word n.0.value)) (sym (same_end (at + 5) end g.1)) (number_span bs at 0x51 n.0 kind whole n.2)))
    h

-- As many values as were counted.
sound_repeated : (P : Value → Type 0) (f : ℕ → Verdict) (bs : List ℕ) → ((at end : ℕ) → f at ≡ Ok end → Found P bs at end)
    → (n at end : ℕ) → repeated n f at ≡ Ok end → (vs : Values) × (length (members vs) ≡ n) × Each P vs × Span bs at (encode_row vs) end
unfolding encode
sound_repeated P f bs each zero at end h =
    (none, refl, tt, record { rest = drop at bs; stands = refl; ends = (let e = same_end at end h in omega arith) })
sound_repeated P f bs each (suc n) at end h =
    let t = then_inv (f at) (repeated n f) end h in
    let v = each at t.0 t.1 in
    let vs = sound_repeated P f bs each n t.0 end t.2 in
    (v.0 then vs.0, ap suc vs.1, (v.1, vs.2), join bs (encode v.0) (encode_row vs.0) at t.0 end v.2 vs.3)

ranged_index : (low : ℤ) (count : ℕ) → count < 65536 → ranged low count ≡ true → Indexed low count
ranged_index low count few h =
    let p = and_parts (ltb 0 count || (le_z low (pos 1) && le_z (pos 1) low)) (le_z (low +ℤ pos count) (pos 2147483648)) h in
    record {
      few = few;
      empty = λ e. ⊎_elim
          (λ k. absurd (let z : ⊥ = omega (arith, ltb-true 0 count k) in z))
          (λ k. let q = and_parts (le_z low (pos 1)) (le_z (pos 1) low) k in let a = q.0 in let b = q.1 in omega (arith, ints))
          (or_cases (ltb 0 count) (le_z low (pos 1) && le_z (pos 1) low) p.0);
      within = (let a = p.1 in omega (arith, ints));
    }

-- An array's head, and then its elements.
array_span : (bs : List ℕ) (at : ℕ) (n : Number) → byte bs at ≡ 0x53 → at + 7 ≤ length bs
    → word n.value ≡ byte bs (at + 1) ∷ byte bs (at + 1 + 1) ∷ byte bs (at + 1 + 2) ∷ byte bs (at + 1 + 3) ∷ []
    → two_fit bs (at + 5) ≡ true → Span bs at (0x53 ∷ word n.value ++ two_bytes (pair_at bs (at + 5))) (at + 7)
array_span bs at n k h w fit =
    let p = and_parts (ltb (byte bs (at + 5)) 256) (ltb (byte bs (at + 5 + 1)) 256) fit in
    let two : two_bytes (pair_at bs (at + 5)) ≡ byte bs (at + 5) ∷ byte bs (at + 5 + 1) ∷ [] = two_of _ _ (ltb-true _ 256 p.0) (ltb-true _ 256 p.1) in
    let back : Span bs (at + 5) (two_bytes (pair_at bs (at + 5))) (at + 7) = record {
      rest = drop (at + 5 + 2) bs;
      stands = two_drop bs (at + 5) (omega arith) ∙ ap (λ t. t ++ drop (at + 5 + 2) bs) (sym two);
      ends = omega arith;
    } in
    join bs (0x53 ∷ word n.value) (two_bytes (pair_at bs (at + 5))) at (at + 5) (at + 7) (number_span bs at 0x53 n k (omega arith) w) back

pair_few : (a b : ℕ) → a < 256 → b < 256 → a * 256 + b < 65536
pair_few a b h k = omega arith

sound_array : (t : Tree) (f : ℕ → Verdict) (bs : List ℕ) → ((at end : ℕ) → f at ≡ Ok end → Found (Of t) bs at end)
    → (at end : ℕ) → array_at f bs at ≡ Ok end → Found (Of (Tree.array t)) bs at end
unfolding Of encode
sound_array t f bs each at end h =
    sound_after (Of (Tree.array t)) 0x53 7 false bs at end _ (λ e k. k)
    (λ kind whole k.
    let g = given_inv (indexed_at bs (at + 1)) (Strange at) _ end k in
    let five : at + 1 + 4 ≡ at + 5 = omega arith in
    let i = and_parts (proper_at bs (at + 1)) _ g.0 in
    let j = and_parts (two_fit bs (at + 1 + 4)) (ranged (word_at bs (at + 1)) (pair_at bs (at + 1 + 4))) i.1 in
    let fit : two_fit bs (at + 5) ≡ true = ap (two_fit bs) (sym five) ∙ j.0 in
    let in_range : ranged (word_at bs (at + 1)) (pair_at bs (at + 5)) ≡ true = ap (λ m. ranged (word_at bs (at + 1)) (pair_at bs m)) (sym five) ∙ j.1 in
    let p = and_parts (ltb (byte bs (at + 5)) 256) (ltb (byte bs (at + 5 + 1)) 256) fit in
    let few = pair_few (byte bs (at + 5)) (byte bs (at + 5 + 1)) (ltb-true _ 256 p.0) (ltb-true _ 256 p.1) in
    let n = proper_number bs (at + 1) i.0 in
    let vs = sound_repeated (Of t) f bs each (pair_at bs (at + 5)) (at + 7) end g.1 in
    let index : Indexed n.0.value (length (members vs.0)) = subst (λ z. Indexed z (length (members vs.0))) (sym n.1) (subst (Indexed (word_at bs (at + 1))) (sym vs.1) (ranged_index (word_at bs (at + 1)) (pair_at bs (at + 5)) few in_range)) in
    let head : Span bs at (0x53 ∷ word n.0.value ++ two_bytes (length (members vs.0))) (at + 7) = subst (λ m. Span bs at (0x53 ∷ word n.0.value ++ two_bytes m) (at + 7)) (sym vs.1) (array_span bs at n.0 kind whole n.2 fit) in
    (array n.0 vs.0, (index, vs.2), join bs _ (encode_row vs.0) at (at + 7) end head vs.3))
    h

sound_record : (ts : Trees) (f : ℕ → Verdict) (bs : List ℕ)
    → ((at end : ℕ) → f at ≡ Ok end → (vs : Values) × RowOf ts vs × (length (members vs) ≡ count_of ts) × Span bs at (encode_row vs) end)
    → (at end : ℕ) → record_at (count_of ts) f bs at ≡ Ok end → Found (Of (Tree.record_of ts)) bs at end
unfolding Of encode
sound_record ts f bs each at end h =
    sound_after (Of (Tree.record_of ts)) 0x54 2 false bs at end _ (λ e k. k)
    (λ kind whole k.
    let g = given_inv (eqb (byte bs (at + 1)) (count_of ts)) (Clash at) _ end k in
    let vs = each (at + 2) end g.1 in (
      record_of vs.0,
      vs.1,
      join bs (0x54 ∷ length (members vs.0) ∷ []) (encode_row vs.0) at (at + 2) end (two_span bs at 0x54 (length (members vs.0)) whole kind (eqb-true _ _ g.0 ∙ sym vs.2)) vs.3,
    ))
    h

sound_union : (ts : Trees) (f : ℕ → ℕ → Verdict) (bs : List ℕ)
    → ((tag at end : ℕ) → f tag at ≡ Ok end → (v : Value) × OneOf ts tag v × Span bs (at + 2) (encode v) end)
    → (at end : ℕ) → union_at f bs at ≡ Ok end → Found (Of (Tree.union ts)) bs at end
unfolding Of encode
sound_union ts f bs each at end h =
    sound_after (Of (Tree.union ts)) 0x55 2 false bs at end _ (λ e k. k)
    (λ kind whole k.
    let v = each (byte bs (at + 1)) at end k in
    (union (byte bs (at + 1)) v.0, v.1, join bs (0x55 ∷ byte bs (at + 1) ∷ []) (encode v.0) at (at + 2) end (two_span bs at 0x55 (byte bs (at + 1)) whole kind refl) v.2))
    h

mutual
  unfolding Of encode read

  pub sound_read : (t : Tree) (bs : List ℕ) (at end : ℕ) → read t bs at ≡ Ok end → Found (Of t) bs at end
  sound_read Tree.boolean bs at end h = sound_boolean bs at end h
  sound_read Tree.integer bs at end h = sound_integer bs at end h
  sound_read (Tree.array t) bs at end h = sound_array t (read t bs) bs (sound_read t bs) at end h
  sound_read (Tree.record_of ts) bs at end h = sound_record ts (reads ts bs) bs (sound_reads ts bs) at end h
  sound_read (Tree.union ts) bs at end h = sound_union ts (λ tag. chosen ts tag bs) bs (λ tag. sound_chosen ts tag bs) at end h

  sound_reads : (ts : Trees) (bs : List ℕ) (at end : ℕ) → reads ts bs at ≡ Ok end → (vs : Values) × RowOf ts vs × (length (members vs) ≡ count_of ts) × Span bs at (encode_row vs) end
  sound_reads Trees.none bs at end h = (none, tt, refl, record { rest = drop at bs; stands = refl; ends = (let e = same_end at end h in omega arith) })
  sound_reads (Trees.◌then◌ t ts) bs at end h =
      let m = then_inv (read t bs at) (reads ts bs) end h in
      let v = sound_read t bs at m.0 m.1 in
      let vs = sound_reads ts bs m.0 end m.2 in
      (Values.◌then◌ v.0 vs.0, (v.1, vs.1), ap suc vs.2, join bs (encode v.0) (encode_row vs.0) at m.0 end v.2 vs.3)

  sound_chosen : (ts : Trees) (tag : ℕ) (bs : List ℕ) (at end : ℕ) → chosen ts tag bs at ≡ Ok end → (v : Value) × OneOf ts tag v × Span bs (at + 2) (encode v) end
  sound_chosen Trees.none tag bs at end h = absurd (let y : ⊥ = cc in y)
  sound_chosen (Trees.◌then◌ t ts) zero bs at end h = sound_read t bs (at + 2) end h
  sound_chosen (Trees.◌then◌ t ts) (suc tag) bs at end h = sound_chosen ts tag bs at end h
