-- The reader accepts exactly the encodings of values of the type.
use Rattle.std.proofs.Common.{◌≡◌, ℕ, ◌+◌, ◌<◌, ◌≤◌, leb, List, ◌++◌, length, take, drop, Some, None, Ok, Err, Option, sym, refl, ap, ◌∙◌, subst, arith, length-append}
use Rattle.std.proofs.lemmas.List.{take_at, take-append-drop}
use Rattle.std.proofs.lemmas.Option.{slice_get-get_or, slice_get_past}
use Rattle.std.proofs.lemmas.Bool.{leb-true, lt-leb, le-leb}
use Rattle.values.specs.declared.refusal.Refusal.{Refusal}
use Rattle.values.specs.declared.refusal.Refusal.TheVariants.{Cut, Undeclared}
use Rattle.values.specs.declared.row.Row.{Row}
use Rattle.values.specs.Values.{Value, size, encode}
use Rattle.values.specs.Trees.{Tree}
use Rattle.values.specs.Rows.{table, tree_of, tree_at}
use Rattle.values.proofs.Grown.{table_long}
use Rattle.values.proofs.Prefixes.{size_is_length, two_at_least}
use Rattle.value_reader.specs.Reading.{Verdict, given, and_then, read, read_as, read_number, ended, read_whole}
use Rattle.value_reader.specs.Exactness.{Stands, Holds, HoldsNumber, Exact}
use Rattle.value_reader.proofs.Drops.{Span, reaches}
use Rattle.value_reader.proofs.Inverse.{given_inv, then_inv}
use Rattle.value_reader.proofs.Sound.{sound_read}
use Rattle.value_reader.proofs.Complete.{complete_read}

-- A span of a value's bytes, as the statement has it, and back.
pub stands_of : (bs : List ℕ) (at end : ℕ) (v : Value) → Span bs at (encode v) end → Stands bs at end v
stands_of bs at end v s =
    let long = size_is_length v in
    record {
      within = omega (arith, reaches bs (encode v ++ s.rest) at s.stands (omega (arith, length-append (encode v) s.rest, long, two_at_least v)), length-append (encode v) s.rest, s.ends);
      ends = omega (arith, s.ends, long);
      bytes = ap (take (size v)) s.stands ∙ take_at (encode v) s.rest (size v) long;
    }

pub begins_of : (bs : List ℕ) (at end : ℕ) (v : Value) → Stands bs at end v → drop at bs ≡ encode v ++ drop (size v) (drop at bs)
begins_of bs at end v s = sym (take-append-drop (size v) (drop at bs)) ∙ ap (λ t. t ++ drop (size v) (drop at bs)) s.bytes

pub read_exact : (t : Tree) (bs : List ℕ) (at : ℕ) → Exact (read t bs at) (Holds t bs at)
read_exact t bs at end = (
  (λ h. let f = sound_read t bs at end h in (f.0, f.1, stands_of bs at end f.0 f.2)),
  (λ h. complete_read t bs h.0 h.1 at _ (begins_of bs at end h.0 h.2) ∙ ap Ok h.2.ends),
)

-- A type number that the table has, and one that it lacks.
pub number_there : (rows : List Row) (n : ℕ) → n < 2 + length rows → tree_of rows n ≡ Some (tree_at rows n)
unfolding tree_of
number_there rows n h = slice_get-get_or (table rows) n Tree.boolean (omega (arith, table_long rows))

pub number_missing : (rows : List Row) (n : ℕ) → 2 + length rows ≤ n → tree_of rows n ≡ None
unfolding tree_of
number_missing rows n h = slice_get_past (table rows) n (omega (arith, table_long rows))

pub read_there : (rows : List Row) (n : ℕ) (bs : List ℕ) (at : ℕ) → n < 2 + length rows → read (tree_at rows n) bs at ≡ read_number rows n bs at
unfolding read_number
read_there rows n bs at h = ap (λ o. read_as o bs at) (sym (number_there rows n h))

pub read_missing : (rows : List Row) (n : ℕ) (bs : List ℕ) (at : ℕ) → 2 + length rows ≤ n → Err (Undeclared 0) ≡ read_number rows n bs at
unfolding read_number
read_missing rows n bs at h = ap (λ o. read_as o bs at) (sym (number_missing rows n h))

-- The verdict may be given by an equation.
pub exact_at : (r s : Verdict) (P : ℕ → Type 0) → r ≡ s → Exact s P → Exact r P
exact_at r s P e x end = ((λ h. (x end).0 (sym e ∙ h)), (λ h. e ∙ (x end).1 h))

as_exact : (o : Option Tree) (bs : List ℕ) (at : ℕ) → Exact (read_as o bs at) (λ end. (t : Tree) × (o ≡ Some t) × Holds t bs at end)
as_exact (Some t) bs at end = (
  (λ h. (t, refl, (read_exact t bs at end).0 h)),
  (λ h. let e = h.1 in let same : h.0 ≡ t = cc in subst (λ u. Holds u bs at end → read t bs at ≡ Ok end) (sym same) (read_exact t bs at end).1 h.2),
)
as_exact None bs at end = (
  (λ h. absurd (let y : ⊥ = cc in y)),
  (λ h. let e = h.1 in absurd (let y : ⊥ = cc in y)),
)

pub number_exact : (rows : List Row) (n : ℕ) (bs : List ℕ) (at : ℕ) → Exact (read_number rows n bs at) (HoldsNumber rows n bs at)
unfolding read_number
number_exact rows n bs at = as_exact (tree_of rows n) bs at

-- Bytes that are one value and no more.
module _ (rows : List Row) (n : ℕ) (bs : List ℕ) where
  pub whole_fails : (e : Refusal) → Err e ≡ read_number rows n bs 0 → Err e ≡ read_whole rows n bs
  unfolding read_whole
  whole_fails e h = ap (λ v. and_then v (ended bs)) h

  pub whole_longer : (end : ℕ) → Ok end ≡ read_number rows n bs 0 → end < length bs → Err (Cut end) ≡ read_whole rows n bs
  unfolding read_whole
  whole_longer end h l = sym (ap (λ b. given b (Cut end) (Ok end)) (lt-leb (length bs) end l)) ∙ ap (λ v. and_then v (ended bs)) h

  pub whole_ends : (end : ℕ) → Ok end ≡ read_number rows n bs 0 → length bs ≤ end → Ok end ≡ read_whole rows n bs
  unfolding read_whole
  whole_ends end h l = sym (ap (λ b. given b (Cut end) (Ok end)) (le-leb (length bs) end l)) ∙ ap (λ v. and_then v (ended bs)) h

  pub whole_exact : Exact (read_whole rows n bs) (λ end. (end ≡ length bs) × HoldsNumber rows n bs 0 end)
  unfolding read_whole
  whole_exact end = (
    (λ h.
        let t = then_inv (read_number rows n bs 0) (ended bs) end h in
        let g = given_inv (leb (length bs) t.0) (Cut t.0) (Ok t.0) end t.2 in
        let e = g.1 in
        let same : t.0 ≡ end = cc in
        let k = (number_exact rows n bs 0 end).0 (t.1 ∙ ap Ok same) in
        (omega (arith, leb-true _ _ g.0, k.2.2.within, same), k)),
    (λ h. sym (whole_ends end (sym ((number_exact rows n bs 0 end).1 h.1)) (omega (arith, h.0)))),
  )
