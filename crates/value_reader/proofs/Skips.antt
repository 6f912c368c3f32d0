-- Passing over records, and what it answers where values stand.
use Rattle.std.proofs.Common.{◌≡◌, ℕ, zero, suc, ◌+◌, ◌-◌, ◌<◌, ◌≤◌, Bool, true, false, cond, ◌&&◌, eqb, ltb, leb, List, [], ◌∷◌, ◌++◌, length, drop, Some, None, Option, sym, refl, ap, ◌∙◌, append-nil, arith, length-append, length-drop}
use Rattle.std.proofs.lemmas.Bool.{and_parts, and_from, ltb-true, lt-ltb, le-leb, lt-leb}
use Rattle.values.specs.Values.{Value, boolean, integer, error, array, record_of, union, members, size, sizes, encode, encodes, word}
use Rattle.values.proofs.Heads.{head, parts, head_two}
use Rattle.values.proofs.Prefixes.{Counted, Counteds, counted, counted_append, counted_parts, encodes_opened, sizes_opened, sizes_is_length, two_each}
use Rattle.value_reader.specs.declared.skip.Head.{Head}
use Rattle.value_reader.specs.Bytes.{byte, pair_at}
use Rattle.value_reader.specs.Skipping.{long_of, inner_at, head_at, stepped, passed, skipped, Skips}
use Rattle.value_reader.proofs.Drops.{onward, byte_in, byte_first, reaches}
use Rattle.value_reader.proofs.Complete.{pair_is}

-- The test of a head, and the head.
abbrev headed : List ℕ → ℕ → Bool
headed bs at = ltb at (length bs) && (ltb 0 (long_of (byte bs at)) && leb (at + long_of (byte bs at)) (length bs))

head_by : (b : Bool) (h k : Head) → Some h ≡ cond b (Some k) None → (b ≡ true) × (h ≡ k)
head_by true h k e = (refl, cc)
head_by false h k e = absurd (let y : ⊥ = cc in y)

head_within : (bs : List ℕ) (at : ℕ) (h : Head) → Some h ≡ head_at bs at → at < length bs
head_within bs at h e = ltb-true at (length bs) (and_parts (ltb at (length bs)) _ (head_by (headed bs at) h _ e).0).0

-- One turn of the loop, where `passed` has room for as many records as there are bytes.
module _ (bs : List ℕ) (at owed : ℕ) (whole : Option ℕ) where
  pub none_owed : (room : ℕ) → owed ≡ 0 → passed room bs at owed ≡ whole → Some at ≡ whole
  unfolding passed
  none_owed zero z w = ap (passed zero bs at) (sym z) ∙ w
  none_owed (suc room) z w = ap (passed (suc room) bs at) (sym z) ∙ w

  some_owed : (room : ℕ) → 0 < owed → passed room bs at owed ≡ whole → passed room bs at (suc (owed - 1)) ≡ whole
  some_owed room s w = ap (passed room bs at) (let z : suc (owed - 1) ≡ owed = omega arith in z) ∙ w

  pub no_head : (room : ℕ) → 0 < owed → passed room bs at owed ≡ whole → None ≡ head_at bs at → None ≡ whole
  unfolding passed
  no_head zero s w e = some_owed zero s w
  no_head (suc room) s w e = ap (λ o. stepped (passed room bs) o bs at (owed - 1)) e ∙ some_owed (suc room) s w

  module _ (h : Head) (e : Some h ≡ head_at bs at) (s : 0 < owed) where
    step : (room : ℕ) → length bs ≤ at + room → passed room bs at owed ≡ whole
        → (next : ℕ) × (room ≡ suc next) × (stepped (passed next bs) (Some h) bs at (owed - 1) ≡ whole)
    unfolding passed
    step zero r w = absurd (let z : ⊥ = omega (arith, head_within bs at h e) in z)
    step (suc room) r w = (room, refl, ap (λ o. stepped (passed room bs) o bs at (owed - 1)) e ∙ some_owed (suc room) s w)

    pub too_many : (room : ℕ) → length bs ≤ at + room → passed room bs at owed ≡ whole → length bs - (at + h.long) < owed - 1 + h.inner → None ≡ whole
    too_many room r w k =
        let n = step room r w in
        sym (ap (λ b. cond b (passed n.0 bs (at + h.long) (owed - 1 + h.inner)) None) (lt-leb (owed - 1 + h.inner) (length bs - (at + h.long)) k)) ∙ n.2

    pub goes_on : (room : ℕ) → length bs ≤ at + room → passed room bs at owed ≡ whole → owed - 1 + h.inner ≤ length bs - (at + h.long)
        → (next : ℕ) × (length bs ≤ at + h.long + next) × (passed next bs (at + h.long) (owed - 1 + h.inner) ≡ whole)
    goes_on room r w k =
        let n = step room r w in
        let f = and_parts (ltb at (length bs)) _ (head_by (headed bs at) h _ e).0 in
        let g = and_parts (ltb 0 (long_of (byte bs at))) _ f.1 in
        let long : 0 < h.long = omega (arith, ltb-true _ _ g.0, ap (λ x. x.long) (head_by (headed bs at) h _ e).1) in (
          n.0,
          omega (arith, n.1),
          sym (ap (λ b. cond b (passed n.0 bs (at + h.long) (owed - 1 + h.inner)) None) (le-leb (owed - 1 + h.inner) (length bs - (at + h.long)) k)) ∙ n.2,
        )

-- The head of a value, where its bytes stand.
module _ (bs : List ℕ) (at : ℕ) where
  long_is : (v : Value) (rest : List ℕ) → drop at bs ≡ head v ++ rest → long_of (byte bs at) ≡ length (head v)
  long_is (boolean b) rest e = ap long_of (byte_first bs _ at e)
  long_is (integer n) rest e = ap long_of (byte_first bs _ at e)
  long_is (error f) rest e = ap long_of (byte_first bs _ at e)
  long_is (array low vs) rest e = ap long_of (byte_first bs _ at e)
  long_is (record_of vs) rest e = ap long_of (byte_first bs _ at e)
  long_is (union tag v) rest e = ap long_of (byte_first bs _ at e)

  by_kind : ℕ → ℕ
  by_kind kind = cond (eqb kind 0x53) (pair_at bs (at + 5)) (cond (eqb kind 0x54) (byte bs (at + 1)) (cond (eqb kind 0x55) 1 0))

  inner_is : (v : Value) (rest : List ℕ) → Counted v → drop at bs ≡ head v ++ rest → inner_at bs at ≡ length (parts v)
  unfolding Counted by_kind
  inner_is (boolean b) rest c e = ap by_kind (byte_first bs _ at e)
  inner_is (integer n) rest c e = ap by_kind (byte_first bs _ at e)
  inner_is (error f) rest c e = ap by_kind (byte_first bs _ at e)
  inner_is (array low vs) rest c e = ap by_kind (byte_first bs _ at e) ∙ pair_is bs (at + 5) (length (members vs)) rest (onward bs (0x53 ∷ word low.value) _ at e) c.0
  inner_is (record_of vs) rest c e = ap by_kind (byte_first bs _ at e) ∙ byte_in bs _ at 1 e
  inner_is (union tag v) rest c e = ap by_kind (byte_first bs _ at e)

  head_is : (v : Value) (rest : List ℕ) → Counted v → drop at bs ≡ head v ++ rest → head_at bs at ≡ Some (record { long = length (head v); inner = length (parts v) })
  head_is v rest c e =
      let whole = reaches bs (head v ++ rest) at e (omega (arith, length-append (head v) rest, head_two v)) in
      let long = long_is v rest e in
      let test : headed bs at ≡ true = and_from _ _ (lt-ltb at (length bs) (omega (arith, whole, length-append (head v) rest, head_two v)))
      (and_from _ _ (lt-ltb 0 (long_of (byte bs at)) (omega (arith, long, head_two v))) (le-leb _ _ (omega (arith, long, whole, length-append (head v) rest)))) in
      ap (λ b. cond b (Some (record { long = long_of (byte bs at); inner = inner_at bs at })) None) test
      ∙ ap (λ n. Some (record { long = n; inner = inner_at bs at })) long
      ∙ ap (λ n. Some (record { long = length (head v); inner = n })) (inner_is v rest c e)

-- Where as many values stand as are owed, the place behind them is answered.
module _ (bs : List ℕ) (at : ℕ) (v : Value) (vs : List Value) (rest : List ℕ) (e : drop at bs ≡ encodes (v ∷ vs) ++ rest) where
  opened : drop at bs ≡ head v ++ (encodes (parts v ++ vs) ++ rest)
  opened = e ∙ encodes_opened v vs rest

  room_left : at < length bs
  room_left =
      let long = length-append (head v) (encodes (parts v ++ vs) ++ rest) in
      omega (arith, reaches bs _ at opened (omega (arith, long, head_two v)), long, head_two v)

  next : drop (at + length (head v)) bs ≡ encodes (parts v ++ vs) ++ rest
  next = onward bs (head v) _ at opened

  enough : length vs + length (parts v) ≤ length bs - (at + length (head v))
  enough =
      omega (arith, length-drop (at + length (head v)) bs, ap length next, length-append (encodes (parts v ++ vs)) rest, sizes_is_length (parts v ++ vs), two_each (parts v ++ vs), length-append (parts v) vs)

passed_values : (room : ℕ) (bs : List ℕ) (at : ℕ) (vs : List Value) (rest : List ℕ) → Counteds vs → length bs ≤ at + room → drop at bs ≡ encodes vs ++ rest → passed room bs at (length vs) ≡ Some (at + sizes vs)
unfolding Counteds passed sizes
passed_values zero bs at [] rest c r e = ap Some (let z : at ≡ at + 0 = omega arith in z)
passed_values (suc room) bs at [] rest c r e = ap Some (let z : at ≡ at + 0 = omega arith in z)
passed_values zero bs at (v ∷ vs) rest c r e = absurd (let z : ⊥ = omega (arith, room_left bs at v vs rest e) in z)
passed_values (suc room) bs at (v ∷ vs) rest c r e =
    let long = length (head v) in
    ap (λ o. stepped (passed room bs) o bs at (length vs)) (head_is bs at v _ c.0 (opened bs at v vs rest e))
    ∙ ap (λ b. cond b (passed room bs (at + long) (length vs + length (parts v))) None) (le-leb _ _ (enough bs at v vs rest e))
    ∙ ap (passed room bs (at + long)) (let z : length vs + length (parts v) ≡ length (parts v ++ vs) = omega (arith, length-append (parts v) vs) in z)
    ∙ passed_values room bs (at + long) (parts v ++ vs) rest (counted_append (parts v) vs (counted_parts v c.0) c.1) (omega (arith, head_two v)) (next bs at v vs rest e)
    ∙ ap Some (let z : at + long + sizes (parts v ++ vs) ≡ at + sizes (v ∷ vs) = omega (arith, sizes_opened v vs) in z)

pub skipped_skips : (bs : List ℕ) (at : ℕ) (r : Option ℕ) → r ≡ skipped bs at → Skips bs at r
unfolding Counteds encodes sizes skipped
skipped_skips bs at r s t v rest h e =
    s ∙ passed_values (length bs) bs at (v ∷ []) rest (counted t v h, tt) (omega arith) (e ∙ ap (λ x. x ++ rest) (sym (append-nil (encode v))))
    ∙ ap Some (let z : at + (size v + 0) ≡ at + size v = omega arith in z)
