-- The steps of the reader.
use Rattle.std.proofs.Common.{◌≡◌, ℕ, zero, suc, ◌+◌, ◌-◌, ◌<◌, ◌≤◌, Bool, true, false, cond, ltb, List, [], ◌∷◌, length, get_or, drop, Some, None, Ok, Err, Option, sym, refl, ap, ◌∙◌, arith}
use Rattle.std.proofs.lemmas.List.{drop_more, drop_all}
use Rattle.std.proofs.lemmas.Option.{slice_get-get_or, slice_get_within, get_or_from_slice_get}
use Rattle.std.proofs.lemmas.Bool.{and_parts, ltb-true, ltb-false}
use Rattle.std.specs.List.{slice_get}
use Rattle.values.specs.declared.refusal.Refusal.{Refusal}
use Rattle.values.specs.declared.refusal.Refusal.TheVariants.{Clash}
use Rattle.values.specs.declared.members.Members.{Members}
use Rattle.values.specs.declared.row.Row.{Row}
use Rattle.values.specs.declared.row.Row.TheVariants.{Array, Record, Union}
use Rattle.values.specs.Trees.{Tree}
use Rattle.values.specs.Rows.{used, all_below, uses, sound, trees_of, tree, table, tree_at}
use Rattle.values.specs.Tables.{row_of}
use Rattle.values.proofs.Grown.{table_row, table_boolean, table_integer}
use Rattle.value_reader.specs.Bytes.{byte}
use Rattle.value_reader.specs.Reading.{Verdict, and_then, after, opens, boolean_at, integer_at, array_at, record_at, union_at, repeated, read, reads, chosen, count_of}

-- A member below a limit.
pub nth_below : (limit : ℕ) (ns : List ℕ) (i n : ℕ) → all_below limit ns ≡ true → slice_get ns i ≡ Some n → n < limit
nth_below limit [] i n h e = absurd (let y : ⊥ = cc in y)
nth_below limit (m ∷ ns) zero n h e =
    let p = and_parts (ltb m limit) (all_below limit ns) h in
    let same : m ≡ n = cc in
    omega (arith, ltb-true m limit p.0, same)
nth_below limit (m ∷ ns) (suc i) n h e = nth_below limit ns i n (and_parts (ltb m limit) (all_below limit ns) h).1 e

-- The constituent that a tag names.
pub chosen_some : (below : List Tree) (ns : List ℕ) (tag n : ℕ) (bs : List ℕ) (at : ℕ) → slice_get ns tag ≡ Some n → chosen (trees_of below ns) tag bs at ≡ read (get_or below n Tree.boolean) bs (at + 2)
unfolding read
chosen_some below [] tag n bs at e = absurd (let y : ⊥ = cc in y)
chosen_some below (m ∷ ns) zero n bs at e = let same : m ≡ n = cc in ap (λ k. read (get_or below k Tree.boolean) bs (at + 2)) same
chosen_some below (m ∷ ns) (suc tag) n bs at e = chosen_some below ns tag n bs at e

pub chosen_none : (below : List Tree) (ns : List ℕ) (tag : ℕ) (bs : List ℕ) (at : ℕ) → slice_get ns tag ≡ None → chosen (trees_of below ns) tag bs at ≡ Err (Clash at)
unfolding read
chosen_none below [] tag bs at e = refl
chosen_none below (m ∷ ns) zero bs at e = absurd (let y : ⊥ = cc in y)
chosen_none below (m ∷ ns) (suc tag) bs at e = chosen_none below ns tag bs at e

pub trees_count : (below : List Tree) (ns : List ℕ) → count_of (trees_of below ns) ≡ length ns
trees_count below [] = refl
trees_count below (n ∷ ns) = ap suc (trees_count below ns)

-- One element more.
pub repeated_more : (n i : ℕ) (f : ℕ → Verdict) (at : ℕ) → i < n → repeated (n - i) f at ≡ and_then (f at) (repeated (n - (i + 1)) f)
repeated_more n i f at h = ap (λ k. repeated k f at) (let z : n - i ≡ suc (n - (i + 1)) = omega arith in z)

-- One member more, and none.
pub reads_more : (below : List Tree) (ns : List ℕ) (i : ℕ) (bs : List ℕ) (at : ℕ) → i < length ns
    → reads (trees_of below (drop i ns)) bs at ≡ and_then (read (get_or below (get_or ns i 0) Tree.boolean) bs at) (reads (trees_of below (drop (i + 1) ns)) bs)
unfolding read
reads_more below ns i bs at h = ap (λ ms. reads (trees_of below ms) bs at) (drop_more ns i 0 h)

pub reads_none : (below : List Tree) (ns : List ℕ) (i : ℕ) (bs : List ℕ) (at : ℕ) → length ns ≤ i → reads (trees_of below (drop i ns)) bs at ≡ Ok at
unfolding read
reads_none below ns i bs at h = ap (λ ms. reads (trees_of below ms) bs at) (drop_all i ns h)

-- An element that is refused, and one that is read, in a loop whose rest gives the whole.
module _ (n i : ℕ) (f : ℕ → Verdict) (at : ℕ) (whole : Verdict) (h : i < n) (w : repeated (n - i) f at ≡ whole) where
  pub repeated_fails : (e : Refusal) → Err e ≡ f at → Err e ≡ whole
  repeated_fails e p = ap (λ v. and_then v (repeated (n - (i + 1)) f)) p ∙ sym (repeated_more n i f at h) ∙ w

  pub repeated_next : (q : ℕ) → Ok q ≡ f at → repeated (n - (i + 1)) f q ≡ whole
  repeated_next q p = ap (λ v. and_then v (repeated (n - (i + 1)) f)) p ∙ sym (repeated_more n i f at h) ∙ w

-- The same of members.
module _ (below : List Tree) (ns : List ℕ) (i : ℕ) (bs : List ℕ) (at : ℕ) (whole : Verdict) (h : i < length ns) (w : reads (trees_of below (drop i ns)) bs at ≡ whole) where
  pub reads_fails : (e : Refusal) → Err e ≡ read (get_or below (get_or ns i 0) Tree.boolean) bs at → Err e ≡ whole
  reads_fails e p = ap (λ v. and_then v (reads (trees_of below (drop (i + 1) ns)) bs)) p ∙ sym (reads_more below ns i bs at h) ∙ w

  pub reads_next : (q : ℕ) → Ok q ≡ read (get_or below (get_or ns i 0) Tree.boolean) bs at → reads (trees_of below (drop (i + 1) ns)) bs q ≡ whole
  reads_next q p = ap (λ v. and_then v (reads (trees_of below (drop (i + 1) ns)) bs)) p ∙ sym (reads_more below ns i bs at h) ∙ w

-- A union behind its head: the tag names a constituent, or none.
module _ (below : List Tree) (ns : List ℕ) (bs : List ℕ) (at : ℕ) (o : Option ℕ) (p : Ok o ≡ opens 0x55 2 false bs at) (q : o ≡ None) where
  union_body : (v : Verdict) → v ≡ chosen (trees_of below ns) (byte bs (at + 1)) bs at → v ≡ union_at (λ tag. chosen (trees_of below ns) tag bs) bs at
  union_body v e = e ∙ ap (λ x. after x (chosen (trees_of below ns) (byte bs (at + 1)) bs at)) (ap Ok (sym q) ∙ p)

  pub union_some : (n : ℕ) (v : Verdict) → Some n ≡ slice_get ns (byte bs (at + 1)) → v ≡ read (get_or below n Tree.boolean) bs (at + 2) → v ≡ union_at (λ tag. chosen (trees_of below ns) tag bs) bs at
  union_some n v h e = union_body v (e ∙ sym (chosen_some below ns (byte bs (at + 1)) n bs at (sym h)))

  pub union_none : None ≡ slice_get ns (byte bs (at + 1)) → Err (Clash at) ≡ union_at (λ tag. chosen (trees_of below ns) tag bs) bs at
  union_none h = union_body (Err (Clash at)) (sym (chosen_none below ns (byte bs (at + 1)) bs at (sym h)))

-- A row of a table, found by its number.
found_by : (rows : List Row) (n : ℕ) (r : Row) (b : Bool) → Some r ≡ cond b None (slice_get rows (n - 2)) → (b ≡ false) × (slice_get rows (n - 2) ≡ Some r)
found_by rows n r true e = absurd (let y : ⊥ = cc in y)
found_by rows n r false e = (refl, sym e)

pub row_found : (rows : List Row) (n : ℕ) (r : Row) → sound rows ≡ true → Some r ≡ row_of rows n
    → (tree_at rows n ≡ tree (table rows) r) × (all_below n (uses r) ≡ true)
row_found rows n r s e =
    let f = found_by rows n r (ltb n 2) e in
    table_row rows n r s (ltb-false n 2 f.0) (slice_get_within rows (n - 2) r f.1) (sym (get_or_from_slice_get rows (n - 2) r r f.1))

-- An array's element has a lower number.
pub element_lower : (rows : List Row) (n element : ℕ) → sound rows ≡ true → Some (Array element) ≡ row_of rows n → element < n
element_lower rows n element s e = nth_below n (element ∷ []) 0 element (row_found rows n (Array element) s e).1 refl

-- The type of a row is read by its own step.
module _ (rows : List Row) (n : ℕ) (bs : List ℕ) (at : ℕ) (v : Verdict) (s : sound rows ≡ true) where
  by_row : (r : Row) → Some r ≡ row_of rows n → v ≡ read (tree (table rows) r) bs at → v ≡ read (tree_at rows n) bs at
  by_row r e h = h ∙ ap (λ t. read t bs at) (sym (row_found rows n r s e).0)

  pub array_row : (element : ℕ) → Some (Array element) ≡ row_of rows n → v ≡ array_at (read (tree_at rows element) bs) bs at → v ≡ read (tree_at rows n) bs at
  unfolding read
  array_row element e h = by_row (Array element) e h

  pub record_row : (m : Members) → Some (Record m) ≡ row_of rows n → v ≡ record_at (length (used m)) (reads (trees_of (table rows) (used m)) bs) bs at → v ≡ read (tree_at rows n) bs at
  unfolding read
  record_row m e h =
      by_row (Record m) e (h ∙ ap (λ c. record_at c (reads (trees_of (table rows) (used m)) bs) bs at) (sym (trees_count (table rows) (used m))))

  pub union_row : (m : Members) → Some (Union m) ≡ row_of rows n → v ≡ union_at (λ tag. chosen (trees_of (table rows) (used m)) tag bs) bs at → v ≡ read (tree_at rows n) bs at
  unfolding read
  union_row m e h = by_row (Union m) e h

missed_by : (rows : List Row) (n : ℕ) (b : Bool) → b ≡ ltb n 2 → n < 2 + length rows → None ≡ cond b None (slice_get rows (n - 2)) → n < 2
missed_by rows n true b h e = ltb-true n 2 (sym b)
missed_by rows n false b h e =
    let two = ltb-false n 2 (sym b) in
    let there = slice_get-get_or rows (n - 2) (Array 0) (omega (arith, two)) in
    absurd (let y : ⊥ = cc in y)

pub row_missed : (rows : List Row) (n : ℕ) → n < 2 + length rows → None ≡ row_of rows n → n < 2
row_missed rows n h e = missed_by rows n (ltb n 2) refl h e

-- The types without a row.
module _ (rows : List Row) (n : ℕ) (bs : List ℕ) (at : ℕ) (v : Verdict) where
  pub boolean_row : n ≡ 0 → v ≡ boolean_at bs at → v ≡ read (tree_at rows n) bs at
  unfolding read
  boolean_row e h = h ∙ ap (λ t. read t bs at) (sym (ap (tree_at rows) e ∙ table_boolean rows))

  pub integer_row : n < 2 → (n ≡ 0 → ⊥) → v ≡ integer_at bs at → v ≡ read (tree_at rows n) bs at
  unfolding read
  integer_row two e h = let one : n ≡ 1 = omega arith in h ∙ ap (λ t. read t bs at) (sym (ap (tree_at rows) one ∙ table_integer rows))
