-- The types of a table by their numbers, and how many values a typed expression has.
use Rattle.std.proofs.Common.{◌≡◌, ℕ, zero, suc, ◌+◌, ◌-◌, ◌<◌, ◌≤◌, true, ltb, List, [], ◌∷◌, ◌++◌, length, get_or, Some, None, Option, sym, refl, ap, ◌∙◌, subst, arith}
use Rattle.std.specs.List.{slice_get}
use Rattle.std.proofs.lemmas.List.{length_push}
use Rattle.std.proofs.lemmas.Bool.{and_from, le-leb, ltb-false, cond_both}
use Rattle.values.specs.declared.row.Row.{Row}
use Rattle.values.specs.declared.row.Row.TheVariants.{Array, Record, Union}
use Rattle.values.specs.Trees.{Tree}
use Rattle.values.specs.Rows.{used, uses, lower_from, sound, trees_of, tree, table, tree_at}
use Rattle.values.specs.Tables.{row_of}
use Rattle.values.proofs.Grown.{table_row}
use Rattle.values.proofs.Uses.{used_length}
use Rattle.language.specs.Syntax.{Expr, Exprs, Module, count, arity, arity_first}
use Rattle.language.specs.Sorts.{element_in, fields_in, tags_in, element_of, fields_of, tags_of}
use Rattle.language.specs.Typing.{Signature, Context, result_counts, Types, MembersTypes, ArmsTypes, RowsFit, WellTyped}

pub same_some : {A : Type 0} (x y : A) → Some x ≡ Some y → x ≡ y
same_some x y e = grind arith

pub none_some : {A : Type 0} (x : A) → None ≡ Some x → ⊥
none_some x e = grind arith

-- ── Rows ──

rows_lower : (before rows : List Row) → RowsFit before rows → lower_from (length before + 2) rows ≡ true
unfolding RowsFit lower_from
rows_lower before [] h = refl
rows_lower before (r ∷ rs) h =
    and_from _ _ h.0.lower
    (ap (λ n. lower_from n rs) (let z : length before + 2 + 1 ≡ length (before ++ r ∷ []) + 2 = omega (arith, length_push before r) in z) ∙ rows_lower (before ++ r ∷ []) rs h.1)

-- The rows of a checked module are a table.
pub rows_sound : (m : Module) → WellTyped m → sound m.rows ≡ true
unfolding sound
rows_sound m w = and_from _ _ (le-leb _ 60 w.few_rows) (rows_lower [] m.rows w.rows_fit)

pub nth_there : {X : Type 0} (xs : List X) (i : ℕ) (x : X) → slice_get xs i ≡ Some x → (i < length xs) × (x ≡ get_or xs i x)
nth_there [] i x e = absurd (none_some x e)
nth_there (y ∷ xs) zero x e = (omega arith, sym (same_some y x e))
nth_there (y ∷ xs) (suc i) x e = let k = nth_there xs i x e in (omega (arith, k.0), k.1)

module _ (rows : List Row) (ok : sound rows ≡ true) where
  row_tree : (t : ℕ) (r : Row) → row_of rows t ≡ Some r → tree_at rows t ≡ tree (table rows) r
  row_tree t r =
      cond_both (ltb t 2) None (slice_get rows (t - 2)) (λ o. o ≡ Some r → tree_at rows t ≡ tree (table rows) r)
      (λ b e. absurd (none_some r e))
      (λ b e. let k = nth_there rows (t - 2) r e in (table_row rows t r ok (ltb-false t 2 b) k.0 k.1).0)

  pub element_tree : (t u : ℕ) → element_of rows t ≡ Some u → tree_at rows t ≡ Tree.array (tree_at rows u)
  element_tree t u = by (row_of rows t) refl
    where
      by : (o : Option Row) → row_of rows t ≡ o → element_in o ≡ Some u → tree_at rows t ≡ Tree.array (tree_at rows u)
      by (Some (Array n)) e h = row_tree t (Array n) e ∙ ap (λ m. Tree.array (tree_at rows m)) (same_some n u h)
      by (Some (Record m)) e h = absurd (none_some u h)
      by (Some (Union m)) e h = absurd (none_some u h)
      by None e h = absurd (none_some u h)

  pub fields_tree : (t : ℕ) (us : List ℕ) → fields_of rows t ≡ Some us → tree_at rows t ≡ Tree.record_of (trees_of (table rows) us)
  fields_tree t us = by (row_of rows t) refl
    where
      by : (o : Option Row) → row_of rows t ≡ o → fields_in o ≡ Some us → tree_at rows t ≡ Tree.record_of (trees_of (table rows) us)
      by (Some (Array n)) e h = absurd (none_some us h)
      by (Some (Record m)) e h = row_tree t (Record m) e ∙ ap (λ ns. Tree.record_of (trees_of (table rows) ns)) (same_some (used m) us h)
      by (Some (Union m)) e h = absurd (none_some us h)
      by None e h = absurd (none_some us h)

  pub tags_tree : (t : ℕ) (us : List ℕ) → tags_of rows t ≡ Some us → tree_at rows t ≡ Tree.union (trees_of (table rows) us)
  tags_tree t us = by (row_of rows t) refl
    where
      by : (o : Option Row) → row_of rows t ≡ o → tags_in o ≡ Some us → tree_at rows t ≡ Tree.union (trees_of (table rows) us)
      by (Some (Array n)) e h = absurd (none_some us h)
      by (Some (Record m)) e h = absurd (none_some us h)
      by (Some (Union m)) e h = row_tree t (Union m) e ∙ ap (λ ns. Tree.union (trees_of (table rows) ns)) (same_some (used m) us h)
      by None e h = absurd (none_some us h)

-- A union has a constituent at least.
pub some_tags : (rows : List Row) (t : ℕ) (us : List ℕ) → tags_of rows t ≡ Some us → 1 ≤ length us
some_tags rows t us = by (row_of rows t)
  where
    by : (o : Option Row) → tags_in o ≡ Some us → 1 ≤ length us
    by (Some (Array n)) h = absurd (none_some us h)
    by (Some (Record m)) h = absurd (none_some us h)
    by (Some (Union m)) h = subst (λ ns. 1 ≤ length ns) (same_some (used m) us h) (omega (arith, used_length m, m.counted.0))
    by None h = absurd (none_some us h)

-- ── Numbers of values ──

count_at : (ss : List Signature) (f : ℕ) (s : Signature) → slice_get ss f ≡ Some s → length s.results ≡ get_or (result_counts ss) f 1
count_at [] f s e = absurd (none_some s e)
count_at (r ∷ ss) zero s e = ap (λ x. length x.results) (sym (same_some r s e))
count_at (r ∷ ss) (suc f) s e = count_at ss f s e

-- Sizes of lists that are the same.
as_long : {A : Type 0} {xs ys : List A} → xs ≡ ys → length xs ≡ length ys
as_long e = ap length e

module _ (C : Context) where
  members_count : (es : Exprs) (Γ ts : List ℕ) → MembersTypes C es Γ ts → length ts ≡ count es
  unfolding Types
  members_count Exprs.none Γ ts h = as_long h
  members_count (Exprs.◌then◌ e es) Γ ts h = omega (arith, as_long h.4, members_count es Γ h.1 h.3)

  -- A typed expression has as many values as its arity says.
  mutual
    unfolding Types arity

    pub arity_is : (e : Expr) (Γ ts : List ℕ) → Types C e Γ ts → length ts ≡ arity (result_counts C.callees) e
    arity_is (Expr.list es) Γ ts h = members_count es Γ ts h.2
    arity_is (Expr.integer n) Γ ts h = as_long h
    arity_is (Expr.boolean b) Γ ts h = as_long h
    arity_is (Expr.error f t) Γ ts h = as_long h.2
    arity_is (Expr.name n) Γ ts h = as_long h.2
    arity_is (Expr.unary op a) Γ ts h = as_long h.3
    arity_is (Expr.binary op a b) Γ ts h = as_long h.2
    arity_is (Expr.if test taken other) Γ ts h = arity_is taken Γ ts h.1
    arity_is (Expr.let_in definition body) Γ ts h = arity_is body (Γ ++ h.0) ts h.3
    arity_is (Expr.tagcase test arms) Γ ts h = arity_first_is arms h.1 Γ ts (some_tags C.rows h.0 h.1 h.3) h.5
    arity_is (Expr.for uses initial end) Γ ts h = as_long h.3
    arity_is (Expr.forall m low high part) Γ ts h = as_long h.4
    arity_is (Expr.call f a) Γ ts h = as_long h.3 ∙ count_at C.callees f h.0 h.1
    arity_is (Expr.record_of t e) Γ ts h = as_long h.3
    arity_is (Expr.field n e) Γ ts h = as_long h.6
    arity_is (Expr.union t tag e) Γ ts h = as_long h.5
    arity_is (Expr.array t low es) Γ ts h = as_long h.6
    arity_is (Expr.element a i) Γ ts h = as_long h.5

    pub arity_first_is : (es : Exprs) (us Γ ts : List ℕ) → 1 ≤ length us → ArmsTypes C es us Γ ts
        → length ts ≡ arity_first (result_counts C.callees) es
    arity_first_is Exprs.none us Γ ts some h = absurd (let z : ⊥ = omega (arith, as_long h) in z)
    arity_first_is (Exprs.◌then◌ e es) us Γ ts some h = arity_is e (Γ ++ h.0 ∷ []) ts h.3
