-- Which types the values have that operations and constructors give.
use Rattle.std.proofs.Common.{◌≡◌, ℕ, zero, suc, ◌≤◌, true, T, eqb, List, [], ◌∷◌, ◌++◌, length, get_or, ℤ, pos, negsuc, ◌+ℤ◌, ◌-ℤ◌, ◌≤ℤ◌, Some, sym, refl, ap, subst, ⊎_elim, arith}
use borrow.Author.Differences.{ints}
use lib.Signed.{le_z, le_z_yes}
use Rattle.std.specs.List.{slice_get}
use Rattle.std.proofs.lemmas.Bool.{cond_both, or_cases, eqb-true, false≢true}
use Rattle.numbers.specs.declared.number.Number.{Number}
use Rattle.numbers.specs.declared.fault.Fault.{Fault}
use Rattle.numbers.specs.declared.fault.Fault.TheVariants.{Undef, MissElt, PosOver, NegOver, Unknown, ZeroDivide}
use Rattle.numbers.specs.declared.fault.BasicFault.TheVariants as basics
use Rattle.numbers.specs.declared.integer.Integer.{Integer}
use Rattle.numbers.specs.declared.integer.Integer.TheVariants as integers
use Rattle.numbers.specs.declared.boolean.Boolean.{Boolean}
use Rattle.numbers.specs.declared.boolean.Boolean.TheVariants as booleans
use Rattle.merging.specs.Bundles.{Merges}
use Rattle.values.specs.declared.row.Row.{Row}
use Rattle.values.specs.Trees.{Tree, Basic, Indexed, Each, Of, RowOf, OneOf}
use Rattle.values.specs.Rows.{trees_of, sound, table, tree_at}
use Rattle.values.specs.Values.{Value, Values, row, members, sizes, integer_value, boolean_value}
use Rattle.values.proofs.Grown.{table_boolean, table_integer}
use Rattle.values.proofs.Prefixes.{few_values}
use Rattle.language.specs.declared.operation.Unary.{Unary}
use Rattle.language.specs.declared.operation.Unary.TheVariants as unary
use Rattle.language.specs.declared.operation.Binary.{Binary}
use Rattle.language.specs.declared.operation.Binary.TheVariants as binary
use Rattle.language.specs.declared.merge.Merge.{Merge}
use Rattle.language.specs.declared.merge.Merge.TheVariants.{Collect, Integers, Booleans}
use Rattle.language.specs.Sorts.{basic, has_fault, gives, result_of, part_type, merged_type, element_of, fields_of, tags_of}
use Rattle.language.specs.Typing.{Every}
use Rattle.meaning.specs.Operations.{undef, array_fact, unary_result, binary_result}
use Rattle.meaning.specs.Evaluation.{undefs, first, single, field_of, at_place, element_at, array_from, array_at, not_negative, span}
use Rattle.meaning.specs.Runs.{merge_by}
use Rattle.meaning.specs.Laws.{longest, AllOf}
use Rattle.meaning.proofs.Numbered.{none_some, same_some, element_tree, fields_tree, tags_tree}

-- ── Errors, integers, booleans ──

basic_any : (t : Tree) (f : Fault) → Basic f → Of t (Value.error f)
unfolding Of
basic_any Tree.boolean f h = h
basic_any Tree.integer f h = tt
basic_any (Tree.array t) f h = h
basic_any (Tree.record_of ts) f h = h
basic_any (Tree.union ts) f h = h

pub undef_any : (t : Tree) → Of t undef
undef_any t = basic_any t Undef tt

basic_is : (f : Fault) → basic f ≡ true → Basic f
basic_is Undef e = tt
basic_is MissElt e = tt
basic_is PosOver e = absurd (false≢true e)
basic_is NegOver e = absurd (false≢true e)
basic_is Unknown e = absurd (false≢true e)
basic_is ZeroDivide e = absurd (false≢true e)

integer_any : (i : Integer) → Of Tree.integer (integer_value i)
unfolding Of
integer_any (integers.Proper n) = tt
integer_any (integers.Error f) = tt

boolean_any : (b : Boolean) → Of Tree.boolean (boolean_value b)
unfolding Of
boolean_any (booleans.Proper b) = tt
boolean_any (booleans.Error basics.Undef) = tt
boolean_any (booleans.Error basics.MissElt) = tt

-- ── Rows of values ──

members_row : (vs : List Value) → members (row vs) ≡ vs
members_row [] = refl
members_row (v ∷ vs) = ap (◌∷◌ v) (members_row vs)

each_at : (P : Value → Type 0) (d : Value) → P d → (vs : Values) → Each P vs → (n : ℕ) → P (get_or (members vs) n d)
each_at P d p Values.none h n = p
each_at P d p (Values.◌then◌ v vs) h zero = h.0
each_at P d p (Values.◌then◌ v vs) h (suc n) = each_at P d p vs h.1 n

module _ (rows : List Row) where
  -- v is of the type with this number.
  abbrev pub Has : ℕ → Value → Type 0
  Has t v = Of (tree_at rows t) v

  pub integer_has : (i : Integer) → Has 1 (integer_value i)
  integer_has i = subst (λ t. Of t (integer_value i)) (sym (table_integer rows)) (integer_any i)

  pub boolean_has : (b : Boolean) → Has 0 (boolean_value b)
  boolean_has b = subst (λ t. Of t (boolean_value b)) (sym (table_boolean rows)) (boolean_any b)

  pub error_has : (t : ℕ) (f : Fault) → has_fault t f ≡ true → Has t (Value.error f)
  error_has t f h =
      ⊎_elim
      (λ e. subst (λ n. Has n (Value.error f)) (sym (eqb-true t 1 e)) (integer_has (integers.Error f)))
      (λ b. basic_any (tree_at rows t) f (basic_is f b))
      (or_cases (eqb t 1) (basic f) h)

  pub none_all : AllOf rows [] []
  unfolding AllOf
  none_all = tt

  pub one_all : (v : Value) (t : ℕ) → Has t v → AllOf rows (single v) (t ∷ [])
  unfolding AllOf
  one_all v t h = (h, tt)

  pub all_append : (us vs : List Value) (ts rs : List ℕ) → AllOf rows us ts → AllOf rows vs rs → AllOf rows (us ++ vs) (ts ++ rs)
  unfolding AllOf
  all_append [] vs [] rs h k = k
  all_append [] vs (t ∷ ts) rs h k = absurd h
  all_append (u ∷ us) vs [] rs h k = absurd h
  all_append (u ∷ us) vs (t ∷ ts) rs h k = (h.0, all_append us vs ts rs h.1 k)

  pub all_at : (vs : List Value) (ts : List ℕ) (n t : ℕ) → AllOf rows vs ts → slice_get ts n ≡ Some t → Has t (get_or vs n undef)
  unfolding AllOf
  all_at [] [] n t h e = absurd (none_some t e)
  all_at [] (u ∷ ts) n t h e = absurd h
  all_at (v ∷ vs) [] n t h e = absurd h
  all_at (v ∷ vs) (u ∷ ts) zero t h e = subst (λ s. Has s v) (same_some u t e) h.0
  all_at (v ∷ vs) (u ∷ ts) (suc n) t h e = all_at vs ts n t h.1 e

  pub all_first : (vs : List Value) (t : ℕ) → AllOf rows vs (t ∷ []) → Has t (first vs)
  all_first vs t h = all_at vs (t ∷ []) 0 t h refl

  all_undefs : (ts : List ℕ) → AllOf rows (undefs (length ts)) ts
  unfolding AllOf
  all_undefs [] = tt
  all_undefs (t ∷ ts) = (undef_any (tree_at rows t), all_undefs ts)

  pub some_undefs : (n : ℕ) (ts : List ℕ) → length ts ≡ n → AllOf rows (undefs n) ts
  some_undefs n ts e = subst (λ m. AllOf rows (undefs m) ts) e (all_undefs ts)

  pub all_each : (vs : List Value) (ts : List ℕ) (t : ℕ) → AllOf rows vs ts → Every t ts → Each (Has t) (row vs)
  unfolding AllOf
  all_each [] [] t h k = tt
  all_each [] (u ∷ ts) t h k = absurd h
  all_each (v ∷ vs) [] t h k = absurd h
  all_each (v ∷ vs) (u ∷ ts) t h k = (subst (λ s. Has s v) k.0 h.0, all_each vs ts t h.1 k.1)

  all_row : (vs : List Value) (ts : List ℕ) → AllOf rows vs ts → RowOf (trees_of (table rows) ts) (row vs)
  unfolding AllOf Of
  all_row [] [] h = tt
  all_row [] (t ∷ ts) h = absurd h
  all_row (v ∷ vs) [] h = absurd h
  all_row (v ∷ vs) (t ∷ ts) h = (h.0, all_row vs ts h.1)

  row_at : (vs : Values) (ts : List ℕ) (n t : ℕ) → RowOf (trees_of (table rows) ts) vs → slice_get ts n ≡ Some t → Has t (get_or (members vs) n undef)
  unfolding Of
  row_at Values.none [] n t h e = absurd (none_some t e)
  row_at Values.none (u ∷ ts) n t h e = absurd h
  row_at (Values.◌then◌ v vs) [] n t h e = absurd h
  row_at (Values.◌then◌ v vs) (u ∷ ts) zero t h e = subst (λ s. Has s v) (same_some u t e) h.0
  row_at (Values.◌then◌ v vs) (u ∷ ts) (suc n) t h e = row_at vs ts n t h.1 e

  one_of : (ts : List ℕ) (tag t : ℕ) (v : Value) → slice_get ts tag ≡ Some t → Has t v → OneOf (trees_of (table rows) ts) tag v
  unfolding Of
  one_of [] tag t v e h = absurd (none_some t e)
  one_of (u ∷ ts) zero t v e h = subst (λ s. Has s v) (sym (same_some u t e)) h
  one_of (u ∷ ts) (suc tag) t v e h = one_of ts tag t v e h

  -- ── Operations ──
  fact_has : (fact : Number → ℕ → Integer) (v : Value) → Has 1 (array_fact fact v)
  unfolding array_fact
  fact_has fact (Value.boolean b) = undef_any _
  fact_has fact (Value.integer n) = undef_any _
  fact_has fact (Value.error f) = undef_any _
  fact_has fact (Value.array low vs) = integer_has _
  fact_has fact (Value.record_of vs) = undef_any _
  fact_has fact (Value.union tag v) = undef_any _

  pub unary_has : (op : Unary) (v : Value) → Has (gives op) (unary_result op v)
  unfolding unary_result
  unary_has unary.Negate v = integer_has _
  unary_has unary.Abs v = integer_has _
  unary_has unary.Not v = boolean_has _
  unary_has (unary.IsFault f) v = boolean_has (booleans.Proper _)
  unary_has unary.IsError v = boolean_has (booleans.Proper _)
  unary_has unary.Lowest v = fact_has _ v
  unary_has unary.Highest v = fact_has _ v
  unary_has unary.Size v = fact_has _ v

  pub binary_has : (op : Binary) (v w : Value) → Has (result_of op) (binary_result op v w)
  unfolding binary_result
  binary_has binary.Plus v w = integer_has _
  binary_has binary.Minus v w = integer_has _
  binary_has binary.Times v w = integer_has _
  binary_has binary.Divide v w = integer_has _
  binary_has binary.Modulo v w = integer_has _
  binary_has binary.Max v w = integer_has _
  binary_has binary.Min v w = integer_has _
  binary_has binary.Equal v w = boolean_has _
  binary_has binary.Unequal v w = boolean_has _
  binary_has binary.Less v w = boolean_has _
  binary_has binary.AtMost v w = boolean_has _
  binary_has binary.Greater v w = boolean_has _
  binary_has binary.AtLeast v w = boolean_has _
  binary_has binary.And v w = boolean_has _
  binary_has binary.Or v w = boolean_has _

  -- ── Records, unions, arrays ──
  module _ (ok : sound rows ≡ true) where
    pub record_has : (t : ℕ) (us : List ℕ) (vs : List Value) → fields_of rows t ≡ Some us → AllOf rows vs us → Has t (Value.record_of (row vs))
    unfolding Of
    record_has t us vs e h = subst (λ s. Of s (Value.record_of (row vs))) (sym (fields_tree rows ok t us e)) (all_row vs us h)

    pub field_has : (t u : ℕ) (us : List ℕ) (n : ℕ) (v : Value) → fields_of rows t ≡ Some us → slice_get us n ≡ Some u → Has t v → Has u (field_of n v)
    unfolding Of field_of
    field_has t u us n v e a h = by v (subst (λ s. Of s v) (fields_tree rows ok t us e) h)
      where
        by : (w : Value) → Of (Tree.record_of (trees_of (table rows) us)) w → Has u (field_of n w)
        by (Value.boolean b) k = absurd k
        by (Value.integer m) k = absurd k
        by (Value.error f) k = undef_any (tree_at rows u)
        by (Value.array low vs) k = absurd k
        by (Value.record_of vs) k = row_at vs us n u k a
        by (Value.union tag w) k = absurd k

    pub union_has : (t tag u : ℕ) (us : List ℕ) (v : Value) → tags_of rows t ≡ Some us → slice_get us tag ≡ Some u → Has u v → Has t (Value.union tag v)
    unfolding Of
    union_has t tag u us v e a h = subst (λ s. Of s (Value.union tag v)) (sym (tags_tree rows ok t us e)) (one_of us tag u v a h)

    place_has : (u : ℕ) (vs : Values) → Each (Has u) vs → (z : ℤ) → Has u (at_place (members vs) z)
    place_has u vs h (pos n) = each_at (Has u) (Value.error MissElt) (basic_any (tree_at rows u) MissElt tt) vs h n
    place_has u vs h (negsuc n) = basic_any (tree_at rows u) MissElt tt

    pub element_has : (t u : ℕ) (v : Value) (i : Integer) → element_of rows t ≡ Some u → Has t v → Has u (element_at v i)
    unfolding Of element_at
    element_has t u v i e h = by v i (subst (λ s. Of s v) (element_tree rows ok t u e) h)
      where
        by : (w : Value) (i : Integer) → Of (Tree.array (tree_at rows u)) w → Has u (element_at w i)
        by (Value.boolean b) i k = absurd k
        by (Value.integer m) i k = absurd k
        by (Value.error f) i k = undef_any (tree_at rows u)
        by (Value.array low vs) (integers.Proper m) k = place_has u vs k.1 (m.value -ℤ low.value)
        by (Value.array low vs) (integers.Error f) k = undef_any (tree_at rows u)
        by (Value.record_of vs) i k = absurd k
        by (Value.union tag w) i k = absurd k

    -- An array has an index for each of its elements: those that fit a store are few.
    from_has : (t u : ℕ) (low : Number) (vs : List Value) → element_of rows t ≡ Some u → Each (Has u) (row vs) → sizes vs ≤ longest
        → (1 ≤ length vs → (low.value +ℤ pos (length vs)) ≤ℤ pos 2147483648) → Has t (array_from low vs)
    unfolding Of
    from_has t u low vs e h few within = subst (λ s. Of s (array_from low vs)) (sym (element_tree rows ok t u e)) (by vs h (few_values vs few) within)
      where
        by : (ws : List Value) → Each (Has u) (row ws) → length ws ≤ 32768 → (1 ≤ length ws → (low.value +ℤ pos (length ws)) ≤ℤ pos 2147483648)
            → Of (Tree.array (tree_at rows u)) (array_from low ws)
        by [] k n w = (record { few = omega arith; empty = λ _. refl; within = omega (arith, ints) }, tt)
        by (v ∷ ws) k n w = (
          subst (λ m. Indexed low.value m) (sym (ap length (members_row (v ∷ ws))))
              (record { few = omega arith; empty = λ z. absurd (let x : ⊥ = omega (arith, z) in x); within = w (omega arith) }),
          k,
        )

    pub array_has : (t u : ℕ) (low : Integer) (vs : List Value) → element_of rows t ≡ Some u → Each (Has u) (row vs) → sizes vs ≤ longest
        → Has t (array_at low vs)
    unfolding array_at
    array_has t u (integers.Proper low) vs e h few =
        cond_both (le_z (low.value +ℤ pos (length vs)) (pos 2147483648)) (array_from low vs) undef (Has t)
        (λ b. from_has t u low vs e h few (λ _. le_z_yes (subst T (sym b) tt)))
        (λ _. undef_any (tree_at rows t))
    array_has t u (integers.Error f) vs e h few = undef_any (tree_at rows t)

    -- ── Merges ──
    spanned : (low high : Number) (n : ℕ) → 1 ≤ n → (z : ℤ) → z ≡ high.value +ℤ pos 1 -ℤ low.value → n ≡ not_negative z
        → (low.value +ℤ pos n) ≤ℤ pos 2147483648
    spanned low high n some (pos m) e k = omega (arith, ints, high.proper.1, k, e)
    spanned low high n some (negsuc m) e k = absurd (let z : ⊥ = omega (arith, k) in z)

    pub merge_has : (merges : Merges) (m : Merge) (u : ℕ) → part_type rows m ≡ Some u → (low high : Number) (vs : List Value)
        → Each (Has u) (row vs) → length vs ≡ span low high → sizes vs ≤ longest → Has (merged_type m) (merge_by merges m low vs)
    unfolding merge_by span
    merge_has merges (Collect t) u e low high vs h long few = from_has t u low vs e h few (λ some. spanned low high (length vs) some _ refl long)
    merge_has merges (Integers k) u e low high vs h long few = integer_has _
    merge_has merges (Booleans k) u e low high vs h long few = boolean_has _
