-- An operator that keeps the part of the highest rank: its laws, and what it means for a list.
use Rattle.std.specs.Prelude.{◌≡◌, true, false, cond, ◌||◌, ◌⊎◌, List, [], ◌∷◌, ℤ, ◌≤ℤ◌, int_lt, refl}
use Rattle.std.proofs.Common.{sym, ap, subst, ◌∙◌, inl, inr, ⊎_elim, arith}
use Rattle.std.specs.Int.{int_max}
use Rattle.std.specs.List.{ContainsAt, AllByRecursion, list_any}
use Rattle.std.proofs.lemmas.Int.{clamps, ints}
use Rattle.std.proofs.lemmas.Bool.{cond-true, cond-false, cond_both, or_cases, or_parts, or_from, or_left, or_right, false≢true}
use Rattle.std.proofs.ByRecursion.{has_append_right, All-weaker}
use Rattle.numbers.specs.declared.fault.Fault.TheVariants.{Undef}
use Rattle.numbers.specs.declared.integer.Integer.{Integer}
use Rattle.numbers.specs.declared.integer.Integer.TheVariants.{Error}
use Rattle.numbers.specs.Integers.{barred}
use Rattle.merging.specs.Operators.{meaning}
use Rattle.merging.specs.Operations.{OperationLaws, combining}
use Rattle.merging.specs.Free.{from_last, tallied-from_last}
use Rattle.merging.specs.Combining.{combining_free, neutral_kept_by}
use Rattle.choices.specs.Extremes.{Chosen}
use Rattle.choices.specs.Tallies.{Tally, NoMissedTally, unbarred_tally}

-- The one of two integers that has the higher rank.
abbrev pub chosen_by : (Integer → ℤ) → Integer → Integer → Integer
chosen_by rank j k = cond (barred j || barred k) (Error Undef) (cond (int_lt (rank j) (rank k)) k j)

-- The start has the lowest rank, what is barred the highest, and a rank tells what has it: undef, where that is barred.
pub record Ranks (rank : Integer → ℤ) (start : Integer) (top : ℤ) (of_rank : ℤ → Integer) : Type 0 where
  pub start_open : barred start ≡ false
  pub start_least : (a : Integer) → rank start ≤ℤ rank a
  pub below_top : (a : Integer) → rank a ≤ℤ top
  pub barred_top : (a : Integer) → barred a ≡ true → rank a ≡ top
  pub tells_undef : of_rank (rank (Error Undef)) ≡ Error Undef
  pub tells : (a : Integer) → barred a ≡ false → of_rank (rank a) ≡ a

has_first : (x : Integer) (xs : List Integer) → ContainsAt (x ∷ xs) x
has_first x xs = (0, omega arith, λ d. refl)

module _ {rank : Integer → ℤ} {start : Integer} {top : ℤ} {of_rank : ℤ → Integer} (r : Ranks rank start top of_rank) where
  abbrev choose : Integer → Integer → Integer
  choose = chosen_by rank

  abbrev by_rank : Integer → Integer → Integer
  by_rank a b = cond (int_lt (rank a) (rank b)) b a

  by_rank_picks : (a b : Integer) → rank (by_rank a b) ≡ int_max (rank a) (rank b)
  by_rank_picks a b =
      let x = rank a in
      let y = rank b in
      cond_both (int_lt x y) b a (λ c. rank c ≡ int_max x y) (λ e. omega (arith, ints, clamps)) (λ e. omega (arith, ints, clamps))

  top_picks : (a b : Integer) → (barred a || barred b) ≡ true → rank (Error Undef) ≡ int_max (rank a) (rank b)
  top_picks a b e =
      let t = r.barred_top (Error Undef) refl in
      ⊎_elim
      (λ h. omega (arith, ints, clamps, t, r.barred_top a h, r.below_top b))
      (λ h. omega (arith, ints, clamps, t, r.barred_top b h, r.below_top a))
      (or_cases (barred a) (barred b) e)

  -- What is chosen has the higher of the two ranks, and its rank tells it.
  picks : (a b : Integer) → rank (choose a b) ≡ int_max (rank a) (rank b)
  picks a b =
      cond_both (barred a || barred b) (Error Undef) (by_rank a b) (λ c. rank c ≡ int_max (rank a) (rank b)) (top_picks a b) (λ _. by_rank_picks a b)

  told : (a b : Integer) → of_rank (rank (choose a b)) ≡ choose a b
  told a b =
      cond_both (barred a || barred b) (Error Undef) (by_rank a b) (λ c. of_rank (rank c) ≡ c)
      (λ _. r.tells_undef)
      (λ e.
      let open_both = or_parts (barred a) (barred b) e in
      cond_both (int_lt (rank a) (rank b)) b a (λ c. of_rank (rank c) ≡ c) (λ _. r.tells b open_both.1) (λ _. r.tells a open_both.0))

  by_ranks : (a b : Integer) → choose a b ≡ of_rank (int_max (rank a) (rank b))
  by_ranks a b = sym (told a b) ∙ ap of_rank (picks a b)

  choose_assoc : (a b c : Integer) → choose (choose a b) c ≡ choose a (choose b c)
  choose_assoc a b c =
      let same : int_max (rank (choose a b)) (rank c) ≡ int_max (rank a) (rank (choose b c)) = omega (arith, ints, clamps, picks a b, picks b c) in
      by_ranks (choose a b) c ∙ ap of_rank same ∙ sym (by_ranks a (choose b c))

  choose_comm : (a b : Integer) → choose a b ≡ choose b a
  choose_comm a b =
      let same : int_max (rank a) (rank b) ≡ int_max (rank b) (rank a) = omega (arith, ints, clamps) in
      by_ranks a b ∙ ap of_rank same ∙ sym (by_ranks b a)

  -- The start yields to every part to which the rules apply.
  yields : (p : Integer) → barred p ≡ false → choose start p ≡ p
  yields p h =
      let same : int_max (rank start) (rank p) ≡ rank p = omega (arith, ints, clamps, r.start_least p) in
      by_ranks start p ∙ ap of_rank same ∙ r.tells p h

  pub choosing_laws : OperationLaws start choose
  choosing_laws = record { assoc = choose_assoc; comm = choose_comm; neutral_kept = yields start r.start_open }

  -- No choice is miss_elt or zero_divide.
  chosen_tally : (a b : Integer) → Tally (choose a b)
  chosen_tally a b =
      cond_both (barred a || barred b) (Error Undef) (by_rank a b) Tally
      (λ _. tt)
      (λ e.
      let open_both = or_parts (barred a) (barred b) e in
      cond_both (int_lt (rank a) (rank b)) b a Tally (λ _. unbarred_tally b open_both.1) (λ _. unbarred_tally a open_both.0))

  -- So no tally of parts is either: it is the choice between the start and itself.
  pub choosing_tallies : NoMissedTally (combining start choose)
  choosing_tallies n t s = subst Tally (neutral_kept_by choosing_laws s) (chosen_tally start t)

  bars : (a b : Integer) → (barred a || barred b) ≡ true → choose a b ≡ Error Undef
  bars a b e = cond-true (barred a || barred b) _ _ e

  one_of_both : (a b : Integer) → barred a ≡ false → barred b ≡ false → (choose a b ≡ a) ⊎ (choose a b ≡ b)
  one_of_both a b h k =
      cond_both (int_lt (rank a) (rank b)) b a (λ c. choose a b ≡ c → (choose a b ≡ a) ⊎ (choose a b ≡ b)) (λ _. inr) (λ _. inl)
      (cond-false (barred a || barred b) _ _ (or_from (barred a) (barred b) h k))

  -- the choice among the parts of a list
  abbrev best : List Integer → Integer
  best ps = from_last (combining start choose) ps

  best_undef : (ps : List Integer) → list_any barred ps ≡ true → best ps ≡ Error Undef
  best_undef [] e = absurd (false≢true e)
  best_undef (p ∷ ps) e =
      let q = choose start p in
      ⊎_elim
      (λ h. bars q (best ps) (or_left (barred q) (barred (best ps)) (ap barred (bars start p (or_right (barred start) (barred p) h)))))
      (λ h. bars q (best ps) (or_right (barred q) (barred (best ps)) (ap barred (best_undef ps h))))
      (or_cases (barred p) (list_any barred ps) e)

  -- c outranks the parts, and is the start or one of them
  record Best (ps : List Integer) (c : Integer) : Type 0 where
    open_too : barred c ≡ false
    leads : AllByRecursion (λ p. rank p ≤ℤ rank c) ps
    among : (c ≡ start) ⊎ ContainsAt ps c

  best_first : (p : Integer) (ps : List Integer) (c : Integer) → barred p ≡ false → Best ps c → Best (p ∷ ps) (choose p c)
  best_first p ps c h b =
      let e = picks p c in
      let either = one_of_both p c h b.open_too in
      record {
        open_too = ⊎_elim (λ u. ap barred u ∙ h) (λ u. ap barred u ∙ b.open_too) either;
        leads = (omega (arith, ints, clamps, e), All-weaker (λ q. rank q ≤ℤ rank c) (λ q. rank q ≤ℤ rank (choose p c)) (λ q k. omega (arith, ints, clamps, e)) ps b.leads);
        among = ⊎_elim
            (λ u. inr (subst (ContainsAt (p ∷ ps)) (sym u) (has_first p ps)))
            (λ u. subst (λ q. (q ≡ start) ⊎ ContainsAt (p ∷ ps) q) (sym u) (⊎_elim inl (λ k. inr (has_append_right (p ∷ []) ps c k)) b.among))
            either;
      }

  best_is : (ps : List Integer) → list_any barred ps ≡ false → Best ps (best ps)
  best_is [] e = record { open_too = r.start_open; leads = tt; among = inl refl }
  best_is (p ∷ ps) e =
      let clear = or_parts (barred p) (list_any barred ps) e in
      subst (λ q. Best (p ∷ ps) (choose q (best ps))) (sym (yields p clear.0)) (best_first p ps (best ps) clear.0 (best_is ps clear.1))

  pub chosen : (ps : List Integer) → Chosen (λ c p. rank p ≤ℤ rank c) start ps (meaning (combining start choose) ps)
  chosen ps = subst (Chosen (λ c p. rank p ≤ℤ rank c) start ps) (sym (tallied-from_last (combining_free choosing_laws) ps)) (record {
    undefined = best_undef ps;
    leading = λ e. (best_is ps e).leads;
    one_of_them = λ e. (best_is ps e).among;
  })
