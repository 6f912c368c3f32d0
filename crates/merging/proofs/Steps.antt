-- The steps of a merge: what an operator's answers give where tallies of lists are joined and closed.
use Rattle.std.proofs.Common.{◌≡◌, ℕ, ◌+◌, ◌<◌, ◌≤◌, cond, List, [], ◌∷◌, ◌++◌, length, get_or, take, Ok, Err, sym, ap, ◌∙◌, subst, ap₂, arith, length-append, length-take, le-leb}
use Rattle.std.proofs.lemmas.List.Sums.{fold_more}
use Rattle.merging.specs.Operators.{Definition, Sized, sized_tally, Laws, most, tallied, meaning}
use Rattle.merging.specs.Merged.{merged, too_many}
use Rattle.merging.proofs.Grouping.{sized_tallied, tallied_one, tallied_first, tallied_append}

-- What an operator ensures of a join, and of a closing.
abbrev pub Joins : {P T C : Type 0} → Definition P T C → T → T → T → Type 0
Joins d a b r = (m n : ℕ) → Sized d m a → Sized d n b → m + n ≤ most → r ≡ d.join a b

abbrev pub Closes : {P T C : Type 0} → Definition P T C → T → C → Type 0
Closes d t r = (n : ℕ) → Sized d n t → n ≤ most → r ≡ d.close t

module _ {P T C : Type 0} (d : Definition P T C) where
  pub merged_few : (ps : List P) → length ps ≤ most → merged d ps ≡ Ok (meaning d ps)
  merged_few ps h = ap (λ b. cond b (Ok (meaning d ps)) (Err too_many)) (le-leb (length ps) most h)

  -- a join of two tallies that are known
  joined : {a b r : T} (x y : T) (m n : ℕ) → Joins d a b r → a ≡ x → b ≡ y → Sized d m x → Sized d n y → m + n ≤ most → r ≡ d.join x y
  joined x y m n j p q s u h = j m n (subst (Sized d m) (sym p) s) (subst (Sized d n) (sym q) u) h ∙ ap₂ d.join p q

  -- A list's tally, closed, is what a merge answers.
  pub closed : {t : T} {r : C} (ps : List P) → Closes d t r → t ≡ tallied d ps → length ps ≤ most → Ok r ≡ merged d ps
  closed ps e p h =
      let s = subst (Sized d (length ps)) (sym p) (sized_tallied d ps h) in
      ap Ok (e (length ps) s h ∙ ap d.close p) ∙ sym (merged_few ps h)

  -- The first i parts' tally joined with the next part's.
  pub joined_next : {s t r : T} (ps : List P) (i : ℕ) (x : P) → Joins d s t r → s ≡ tallied d (take i ps) → t ≡ d.tally x → x ≡ get_or ps i x → i < length ps → length ps ≤ most → r ≡ tallied d (take (i + 1) ps)
  joined_next ps i x j p q e h few =
      let n = length (take i ps) in
      let below : n ≤ i = omega (arith, length-take i ps) in
      joined (tallied d (take i ps)) (d.tally x) n 1 j p q (sized_tallied d (take i ps) (omega arith)) (sized_tally x) (omega arith)
      ∙ ap (λ y. d.join (tallied d (take i ps)) (d.tally y)) e
      ∙ sym (fold_more (λ t p. d.join t (d.tally p)) d.start ps i x h)

-- A list of one part.
single : {P : Type 0} (ps : List P) (x : P) → length ps ≡ 1 → x ≡ get_or ps 0 x → ps ≡ x ∷ []
single [] x h e = absurd (omega arith)
single (y ∷ []) x h e = ap (λ z. z ∷ []) (sym e)
single (y ∷ (z ∷ ps)) x h e = absurd (omega arith)

module _ {P T C : Type 0} {d : Definition P T C} (laws : Laws d) where
  -- The tally of one part.
  pub tally_single : {t : T} (ps : List P) (x : P) → t ≡ d.tally x → x ≡ get_or ps 0 x → length ps ≡ 1 → t ≡ tallied d ps
  tally_single ps x p e h = p ∙ sym (tallied_one laws x) ∙ ap (tallied d) (sym (single ps x h e))

  -- The tally of two lists, one after the other.
  pub joined_lists : {a b r : T} (ps qs all : List P) → Joins d a b r → a ≡ tallied d ps → b ≡ tallied d qs → all ≡ ps ++ qs → length all ≤ most → r ≡ tallied d all
  joined_lists ps qs all j p q e few =
      let both : length ps + length qs ≤ most = omega (arith, length-append ps qs, ap length e) in
      joined d (tallied d ps) (tallied d qs) (length ps) (length qs) j p q (sized_tallied d ps (omega arith)) (sized_tallied d qs (omega arith)) both
      ∙ sym (tallied_append laws ps qs both)
      ∙ ap (tallied d) (sym e)

  -- A part's tally joined with that of the parts after it, where there are others before it.
  pub joined_before : {t s r : T} (others later all : List P) (x : P) → Joins d t s r → t ≡ d.tally x → s ≡ tallied d later → all ≡ others ++ (x ∷ later) → length all ≤ most → r ≡ tallied d (x ∷ later)
  joined_before others later all x j p q e few =
      let fits : 1 + length later ≤ most = omega (arith, length-append others (x ∷ later), ap length e) in
      joined d (d.tally x) (tallied d later) 1 (length later) j p q (sized_tally x) (sized_tallied d later (omega arith)) fits
      ∙ sym (tallied_first laws x later fits)
