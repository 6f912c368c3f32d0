-- The types of a table, by their numbers.
use Rattle.std.proofs.Common.{◌≡◌, ℕ, zero, suc, ◌+◌, ◌-◌, ◌<◌, ◌≤◌, true, ltb, List, [], ◌∷◌, ◌++◌, length, get_or, sym, refl, ap, ◌∙◌, subst, arith}
use Rattle.std.proofs.lemmas.List.{length_push, get_or_append_left, get_or_push}
use Rattle.std.proofs.lemmas.Bool.{and_parts, ltb-true}
use Rattle.values.specs.declared.row.Row.{Row}
use Rattle.values.specs.declared.row.Row.TheVariants.{Array, Record, Union}
use Rattle.values.specs.Trees.{Tree, Trees}
use Rattle.values.specs.Rows.{used, all_below, uses, lower_from, sound, trees_of, tree, grown, table, tree_at}
use Rattle.values.proofs.Soundness.{sound_lower}

-- What stands in the list stays where it is as the list grows.
pub grown_long : (below : List Tree) (rows : List Row) → length (grown below rows) ≡ length below + length rows
unfolding grown
grown_long below [] = omega arith
grown_long below (r ∷ rows) = grown_long (below ++ tree below r ∷ []) rows ∙ omega (arith, length_push below (tree below r))

grown_keeps : (below : List Tree) (rows : List Row) (n : ℕ) (d : Tree) → n < length below → get_or (grown below rows) n d ≡ get_or below n d
unfolding grown
grown_keeps below [] n d h = refl
grown_keeps below (r ∷ rows) n d h =
    grown_keeps (below ++ tree below r ∷ []) rows n d (omega (arith, length_push below (tree below r))) ∙ get_or_append_left below (tree below r ∷ []) d n h

-- The type of a row looks at lower numbers only.
module _ (a b : List Tree) (limit : ℕ) (same : (n : ℕ) → n < limit → get_or a n Tree.boolean ≡ get_or b n Tree.boolean) where
  same_trees : (ns : List ℕ) → all_below limit ns ≡ true → trees_of a ns ≡ trees_of b ns
  same_trees [] h = refl
  same_trees (n ∷ ns) h =
      let p = and_parts (ltb n limit) (all_below limit ns) h in
      ap (λ t. Trees.◌then◌ t (trees_of a ns)) (same n (ltb-true n limit p.0)) ∙ ap (λ ts. Trees.◌then◌ (get_or b n Tree.boolean) ts) (same_trees ns p.1)

  same_tree : (r : Row) → all_below limit (uses r) ≡ true → tree a r ≡ tree b r
  same_tree (Array n) h = ap Tree.array (same n (ltb-true n limit (and_parts (ltb n limit) true h).0))
  same_tree (Record m) h = ap Tree.record_of (same_trees (used m) h)
  same_tree (Union m) h = ap Tree.union (same_trees (used m) h)

-- The row at a place has the type that the whole list gives it, and uses lower numbers only.
grown_row : (below : List Tree) (rows : List Row) (i : ℕ) (r : Row) → lower_from (length below) rows ≡ true → i < length rows → r ≡ get_or rows i r
    → (get_or (grown below rows) (length below + i) Tree.boolean ≡ tree (grown below rows) r) × (all_below (length below + i) (uses r) ≡ true)
unfolding grown lower_from
grown_row below [] i r l h e = absurd (let z : ⊥ = omega arith in z)
grown_row below (q ∷ rows) zero r l h e =
    let p = and_parts (all_below (length below) (uses q)) (lower_from (length below + 1) rows) l in
    let next = below ++ tree below q ∷ [] in
    let here : get_or (grown next rows) (length below + 0) Tree.boolean ≡ tree below q =
    ap (λ n. get_or (grown next rows) n Tree.boolean) (let z : length below + 0 ≡ length below = omega arith in z)
    ∙ grown_keeps next rows (length below) Tree.boolean (omega (arith, length_push below (tree below q)))
    ∙ get_or_push below (tree below q) Tree.boolean (length below) refl in
    let same : tree below q ≡ tree (grown next rows) q =
    same_tree below (grown next rows) (length below) (λ n k. sym (grown_keeps below (q ∷ rows) n Tree.boolean k)) q p.0 in (
      here ∙ same ∙ ap (tree (grown next rows)) (sym e),
      subst (λ n. all_below n (uses r) ≡ true) (let z : length below ≡ length below + 0 = omega arith in z) (subst (λ x. all_below (length below) (uses x) ≡ true) (sym e) p.0),
    )
grown_row below (q ∷ rows) (suc i) r l h e =
    let p = and_parts (all_below (length below) (uses q)) (lower_from (length below + 1) rows) l in
    let next = below ++ tree below q ∷ [] in
    let long : length next ≡ length below + 1 = length_push below (tree below q) in
    let k = grown_row next rows i r (ap (λ n. lower_from n rows) long ∙ p.1) (omega arith) e in
    let at : length next + i ≡ length below + suc i = omega (arith, long) in
    (ap (λ n. get_or (grown next rows) n Tree.boolean) (sym at) ∙ k.0, subst (λ n. all_below n (uses r) ≡ true) at k.1)

pub table_long : (rows : List Row) → length (table rows) ≡ 2 + length rows
unfolding table
table_long rows = grown_long (Tree.boolean ∷ Tree.integer ∷ []) rows

pub table_boolean : (rows : List Row) → tree_at rows 0 ≡ Tree.boolean
unfolding table
table_boolean rows = grown_keeps (Tree.boolean ∷ Tree.integer ∷ []) rows 0 Tree.boolean (omega arith)

pub table_integer : (rows : List Row) → tree_at rows 1 ≡ Tree.integer
unfolding table
table_integer rows = grown_keeps (Tree.boolean ∷ Tree.integer ∷ []) rows 1 Tree.boolean (omega arith)

pub table_row : (rows : List Row) (n : ℕ) (r : Row) → sound rows ≡ true → 2 ≤ n → n - 2 < length rows → r ≡ get_or rows (n - 2) r
    → (tree_at rows n ≡ tree (table rows) r) × (all_below n (uses r) ≡ true)
unfolding table
table_row rows n r s two h e =
    let k = grown_row (Tree.boolean ∷ Tree.integer ∷ []) rows (n - 2) r (sound_lower rows s) h e in
    let at : 2 + (n - 2) ≡ n = omega arith in
    (ap (λ m. tree_at rows m) (sym at) ∙ k.0, subst (λ m. all_below m (uses r) ≡ true) at k.1)
