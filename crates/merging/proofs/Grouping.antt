-- What the laws give: how a list's tally is put together from its parts, and that every grouping has one meaning.
use Rattle.std.proofs.Common.{◌≡◌, ℕ, ◌+◌, ◌≤◌, List, [], ◌∷◌, ◌++◌, length, fold, sym, refl, ap, ◌∙◌, subst, ap₂, arith, length-append}
use Rattle.merging.specs.Operators.{Definition, Sized, sized_start, sized_tally, sized_join, Laws, most, tallied}
use Rattle.merging.specs.Trees.{Tree, start_leaf, part_leaf, fork, leaves, root, Reordered, none, keep, swap, twice, EveryGrouping}

pub same_length : {P : Type 0} {xs ys : List P} → Reordered xs ys → length xs ≡ length ys
same_length none = refl
same_length (keep r) = omega (arith, same_length r)
same_length swap = refl
same_length (twice r s) = same_length r ∙ same_length s

module _ {P T C : Type 0} (d : Definition P T C) where
  -- a tally joined with each part's tally in turn
  abbrev onto : T → List P → T
  onto t ps = fold (λ t p. d.join t (d.tally p)) t ps

  onto_append : (t : T) (ps qs : List P) → onto t (ps ++ qs) ≡ onto (onto t ps) qs
  onto_append t [] qs = refl
  onto_append t (p ∷ ps) qs = onto_append (d.join t (d.tally p)) ps qs

  one_more : (k : ℕ) (t : T) (p : P) → Sized d k t → k + 1 ≤ most → Sized d (k + 1) (d.join t (d.tally p))
  one_more k t p s h = sized_join k 1 t (d.tally p) s (sized_tally p) h

  sized_onto : (k : ℕ) (t : T) (ps : List P) → Sized d k t → k + length ps ≤ most → Sized d (k + length ps) (onto t ps)
  sized_onto k t [] s h = subst (λ n. Sized d n t) (omega arith) s
  sized_onto k t (p ∷ ps) s h =
      subst (λ n. Sized d n (onto t (p ∷ ps))) (omega arith)
      (sized_onto (k + 1) (d.join t (d.tally p)) ps (one_more k t p s (omega arith)) (omega arith))

  -- A list's tally is a tally of as many parts as the list has.
  pub sized_tallied : (ps : List P) → length ps ≤ most → Sized d (length ps) (tallied d ps)
  sized_tallied ps h = subst (λ n. Sized d n (tallied d ps)) (omega arith) (sized_onto 0 d.start ps sized_start (omega arith))

module _ {P T C : Type 0} {d : Definition P T C} (laws : Laws d) where
  neutral_right : (n : ℕ) (t : T) → Sized d n t → n ≤ most → d.join t d.start ≡ t
  neutral_right n t s h = laws.comm n 0 t d.start s sized_start (omega arith) ∙ laws.neutral n t s h

  -- a join goes into the first tally
  join_onto : (k m : ℕ) (a b : T) (ps : List P) → Sized d k a → Sized d m b → (k + m) + length ps ≤ most → d.join a (onto d b ps) ≡ onto d (d.join a b) ps
  join_onto k m a b [] s u h = refl
  join_onto k m a b (p ∷ ps) s u h =
      join_onto k (m + 1) a (d.join b (d.tally p)) ps s (one_more d m b p u (omega arith)) (omega arith)
      ∙ ap (λ t. onto d t ps) (sym (laws.assoc k m 1 a b (d.tally p) s u (sized_tally p) (omega arith)))

  -- One part's list has its tally.
  pub tallied_one : (p : P) → tallied d (p ∷ []) ≡ d.tally p
  tallied_one p = laws.neutral 1 (d.tally p) (sized_tally p) (omega arith)

  -- Two lists, one after the other, have the join of their tallies.
  pub tallied_append : (ps qs : List P) → length ps + length qs ≤ most → tallied d (ps ++ qs) ≡ d.join (tallied d ps) (tallied d qs)
  tallied_append ps qs h =
      let n = length ps in
      let t = tallied d ps in
      let s : Sized d n t = sized_tallied d ps (omega arith) in
      onto_append d d.start ps qs
      ∙ ap (λ t. onto d t qs) (sym (neutral_right n t s (omega arith)))
      ∙ sym (join_onto n 0 t d.start qs s sized_start (omega arith))

  -- A first part's tally is joined to that of the others.
  pub tallied_first : (p : P) (ps : List P) → 1 + length ps ≤ most → tallied d (p ∷ ps) ≡ d.join (d.tally p) (tallied d ps)
  tallied_first p ps h = tallied_append (p ∷ []) ps (omega arith) ∙ ap (λ t. d.join t (tallied d ps)) (tallied_one p)

  -- The order of a list does not change its tally.
  tallied_swapped : (x y : P) (ps : List P) → 2 + length ps ≤ most → tallied d (x ∷ (y ∷ ps)) ≡ tallied d (y ∷ (x ∷ ps))
  tallied_swapped x y ps h =
      let sx = sized_tally x in
      let sy = sized_tally y in
      ap (λ t. onto d t ps)
      (laws.assoc 0 1 1 d.start (d.tally x) (d.tally y) sized_start sx sy (omega arith)
      ∙ ap (d.join d.start) (laws.comm 1 1 (d.tally x) (d.tally y) sx sy (omega arith))
      ∙ sym (laws.assoc 0 1 1 d.start (d.tally y) (d.tally x) sized_start sy sx (omega arith)))

  pub tallied_reordered : {ps qs : List P} → Reordered ps qs → length ps ≤ most → tallied d ps ≡ tallied d qs
  tallied_reordered none h = refl
  tallied_reordered (keep {x} {xs} {ys} r) h =
      tallied_first x xs (omega arith)
      ∙ ap (d.join (d.tally x)) (tallied_reordered r (omega arith))
      ∙ sym (tallied_first x ys (omega (arith, same_length r)))
  tallied_reordered (swap {x} {y} {xs}) h = tallied_swapped x y xs (omega arith)
  tallied_reordered (twice r s) h = tallied_reordered r h ∙ tallied_reordered s (omega (arith, same_length r))

  -- A tree's root is the tally of its leaves.
  pub root_tallied : (t : Tree P) → length (leaves t) ≤ most → root d t ≡ tallied d (leaves t)
  root_tallied start_leaf h = refl
  root_tallied (part_leaf p) h = sym (tallied_one p)
  root_tallied (fork l r) h =
      let both : length (leaves l) + length (leaves r) ≤ most = omega (arith, length-append (leaves l) (leaves r)) in
      ap₂ d.join (root_tallied l (omega arith)) (root_tallied r (omega arith))
      ∙ sym (tallied_append (leaves l) (leaves r) both)

  pub every_grouping : EveryGrouping d
  every_grouping t ps r h =
      let few : length (leaves t) ≤ most = omega (arith, same_length r) in
      ap d.close (root_tallied t few ∙ tallied_reordered r few)
