-- The laws of runs, but for that of types.
use Rattle.std.proofs.Common.{◌≡◌, ℕ, ◌+◌, ◌-◌, ◌≤◌, List, map, length, sym, refl, ap, ◌∙◌, subst, arith}
use lib.ListN.{length-map}
use Rattle.numbers.specs.declared.number.Number.{Number}
use Rattle.merging.specs.declared.bundle.IntegerMerge.TheVariants as integer_merges
use Rattle.merging.specs.declared.bundle.BooleanMerge.TheVariants as boolean_merges
use Rattle.merging.specs.Operators.{Definition, Laws, most, meaning}
use Rattle.merging.specs.Bundles.{Merges}
use Rattle.merging.proofs.Grouping.{every_grouping}
use Rattle.values.specs.Values.{Value, sizes, integer_value, boolean_value}
use Rattle.values.proofs.Prefixes.{few_values}
use Rattle.language.specs.declared.merge.Merge.{Merge}
use Rattle.language.specs.declared.merge.Merge.TheVariants.{Collect, Integers, Booleans}
use Rattle.meaning.specs.Operations.{as_integer, as_boolean}
use Rattle.meaning.specs.Outcomes.{Outcome, finished, spent, full, after, lay, Keeps}
use Rattle.meaning.specs.Evaluation.{meanings, run}
use Rattle.meaning.specs.Runs.{merge_by, merged, Definitions, Grouping, Groupings, closed_under, merged_under}
use Rattle.meaning.specs.Laws.{longest, FewAreMerged, GroupingIsFree, Later, BudgetOnlyStops, Counts, StepsAreCounted, Below, ExpressionsStep, LoopsAreUnbounded, Roomier, RoomOnlyStops, ResultsFit}
use Rattle.meaning.proofs.Bounds.{Within, weak, within, end_within, after_within, within_more, lay_within, calls_bounded}
use Rattle.meaning.proofs.Growing.{Grows, run_grows}
use Rattle.meaning.proofs.Loops.{unbounded}

-- ── Budgets and room ──

grows_later : {A : Type 0} (k : ℕ) (o o' : Outcome A) → Grows 0 k o o' → Later k o o'
unfolding Grows Later
grows_later k (finished a l) o' h = h
grows_later k spent o' h = tt
grows_later k (full l) o' h = h refl

grows_roomier : {A : Type 0} (j : ℕ) (o o' : Outcome A) → Grows j 0 o o' → Roomier o o'
unfolding Grows Roomier
grows_roomier j (finished a l) o' h = h ∙ ap (finished a) (let z : l + 0 ≡ l = omega arith in z)
grows_roomier j spent o' h = h refl
grows_roomier j (full l) o' h = tt

grows_same : {A : Type 0} (o o' : Outcome A) → Grows 0 0 o o' → o ≡ o'
unfolding Grows
grows_same (finished a l) o' h = sym (h ∙ ap (finished a) (let z : l + 0 ≡ l = omega arith in z))
grows_same spent o' h = sym (h refl)
grows_same (full l) o' h = sym (h refl ∙ ap full (let z : l + 0 ≡ l = omega arith in z))

pub budget_only_stops : BudgetOnlyStops
budget_only_stops merges functions f arguments free b k =
    grows_later k _ _
    (subst (λ n.
    Grows 0 k (run (merged merges) functions f arguments free b) (run (merged merges) functions f arguments n (b + k))) (let z : free + 0 ≡ free = omega arith in z)
    (run_grows 0 k free (merged merges) (merged merges) (λ left m low vs h. refl) functions f arguments free b (omega arith)))

pub room_only_stops : RoomOnlyStops
room_only_stops merge functions f arguments free b j =
    grows_roomier j _ _
    (subst (λ n.
    Grows j 0 (run merge functions f arguments free b) (run merge functions f arguments (free + j) n)) (let z : b + 0 ≡ b = omega arith in z)
    (run_grows j 0 free merge merge (λ left m low vs h. ap (λ n.
    merge n m low vs) (let z : left ≡ left + 0 = omega arith in z)) functions f arguments free b (omega arith)))

-- ── Orders and groupings ──

pub few_are_merged : FewAreMerged
few_are_merged merge merge' agree functions f arguments free b h =
    grows_same _ _
    (subst (λ n. Grows 0 0 (run merge functions f arguments free b) (run merge' functions f arguments free n)) (let z : b + 0 ≡ b = omega arith in z)
    (subst (λ n.
    Grows 0 0 (run merge functions f arguments free b) (run merge' functions f arguments n (b + 0))) (let z : free + 0 ≡ free = omega arith in z)
    (run_grows 0 0 longest merge merge'
    (λ left m low vs n. agree left m low vs (few_values vs n) ∙ ap (λ l. merge' l m low vs) (let z : left ≡ left + 0 = omega arith in z))
    functions f arguments free b h)))

-- A tree over the parts of a forall closes to the meaning.
tree_closes : {P T : Type 0} (d : Definition P T P) → Laws d → (f : List P → P) → f ≡ meaning d
    → (g : Grouping P) (left : ℕ) (part : Value → P) (vs : List Value)
    → length vs ≤ most → closed_under d g left (map part vs) ≡ f (map part vs)
tree_closes d laws f e g left part vs h =
    every_grouping laws (g.tree left (map part vs)) (map part vs) (g.orders left (map part vs)) (omega (arith, length-map vs part))
    ∙ ap (λ f₁. f₁ (map part vs)) (sym e)

-- The definitions are lawful, and the merges are what they mean.
pub record Lawful {P T X N A O : Type 0} (merges : Merges) (d : Definitions P T X N A O) : Type 0 where
  pub plus : Laws d.plus × (merges.plus ≡ meaning d.plus)
  pub times : Laws d.times × (merges.times ≡ meaning d.times)
  pub max : Laws d.max × (merges.max ≡ meaning d.max)
  pub min : Laws d.min × (merges.min ≡ meaning d.min)
  pub both : Laws d.both × (merges.both ≡ meaning d.both)
  pub either : Laws d.either × (merges.either ≡ meaning d.either)

module _ {P T X N A O : Type 0} (merges : Merges) (d : Definitions P T X N A O) (l : Lawful merges d) (g : Groupings) where
  trees_agree : (left : ℕ) (m : Merge) (low : Number) (vs : List Value) → length vs ≤ most
      → merged_under d g left m low vs ≡ merged merges left m low vs
  unfolding merge_by
  trees_agree left (Collect t) low vs h = refl
  trees_agree left (Integers integer_merges.Plus) low vs h =
      ap integer_value (tree_closes d.plus l.plus.0 merges.plus l.plus.1 g.integers left as_integer vs h)
  trees_agree left (Integers integer_merges.Times) low vs h =
      ap integer_value (tree_closes d.times l.times.0 merges.times l.times.1 g.integers left as_integer vs h)
  trees_agree left (Integers integer_merges.Max) low vs h =
      ap integer_value (tree_closes d.max l.max.0 merges.max l.max.1 g.integers left as_integer vs h)
  trees_agree left (Integers integer_merges.Min) low vs h =
      ap integer_value (tree_closes d.min l.min.0 merges.min l.min.1 g.integers left as_integer vs h)
  trees_agree left (Booleans boolean_merges.And) low vs h =
      ap boolean_value (tree_closes d.both l.both.0 merges.both l.both.1 g.booleans left as_boolean vs h)
  trees_agree left (Booleans boolean_merges.Or) low vs h =
      ap boolean_value (tree_closes d.either l.either.0 merges.either l.either.1 g.booleans left as_boolean vs h)

pub grouping_is_free : {P T X N A O : Type 0} (merges : Merges) (d : Definitions P T X N A O) → Lawful merges d → GroupingIsFree merges d
grouping_is_free merges d l g = few_are_merged (merged_under d g) (merged merges) (trees_agree merges d l g)

-- ── Steps ──

within_below : {A : Type 0} (bytes : A → ℕ) (room b : ℕ) (o : Outcome A) → Within bytes 1 room b o → Below b o
unfolding Within Below
within_below bytes room b (finished a l) h = omega (arith, h.1)
within_below bytes room b spent h = tt
within_below bytes room b (full l) h = omega arith

pub expressions_step : ExpressionsStep
expressions_step merge functions e names free b =
    within_below sizes free b _ (within merge _ (meanings merge functions) (calls_bounded merge functions) e names free b)

pub loops_are_unbounded : LoopsAreUnbounded
loops_are_unbounded merge functions results end names free =
    unbounded _ (λ vs b. within_below _ _ b _ (end_within merge _ (meanings merge functions) (calls_bounded merge functions) results end _ _ b))

-- What follows without a step, and then takes one at least.
counted : {A : Type 0} (bytes : A → ℕ) (room l b : ℕ) (o : Outcome A) → l ≤ b → Within bytes 1 room l o → Counts b o
unfolding Within Keeps
counted bytes room l b (finished a m) h w = record { adds_up = omega (arith, w.1); costs = omega (arith, w.1) }
counted bytes room l b spent h w = record { adds_up = omega arith; costs = tt }
counted bytes room l b (full m) h w = record { adds_up = omega arith; costs = tt }

after_counted : {A B : Type 0} (bytes : A → ℕ) (bytes' : B → ℕ) (room b : ℕ) (rest : A → ℕ) (o : Outcome A) (next : A → ℕ → Outcome B)
    → Within bytes 0 room b o → ((a : A) (l : ℕ) → Within bytes' 1 (rest a) l (next a l)) → Counts b (after o next)
unfolding Within after Keeps
after_counted bytes bytes' room b rest (finished a l) next w f = counted bytes' (rest a) l b (next a l) (omega (arith, w.1)) (f a l)
after_counted bytes bytes' room b rest spent next w f = record { adds_up = omega arith; costs = tt }
after_counted bytes bytes' room b rest (full l) next w f = record { adds_up = omega arith; costs = tt }

arguments_within : (arguments : List Value) (free b : ℕ) → Within sizes 0 free b (lay (sizes arguments) free arguments b)
arguments_within arguments free b = lay_within sizes (sizes arguments) free free arguments b (λ n. n)

pub steps_are_counted : StepsAreCounted
unfolding run
steps_are_counted merge functions f arguments free b =
    after_counted sizes sizes free b (λ us. free - sizes us) _ _ (arguments_within arguments free b) (λ us l.
    calls_bounded merge functions f us (free - sizes us) l)

within_fits : {A : Type 0} (bytes : A → ℕ) (c room b : ℕ) (o : Outcome A) → Within bytes c room b o → Keeps (λ a. bytes a ≤ room) o
unfolding Within Keeps
within_fits bytes c room b (finished a l) h = h.0
within_fits bytes c room b spent h = tt
within_fits bytes c room b (full l) h = tt

pub results_fit : ResultsFit
unfolding run
results_fit merge functions f arguments free b =
    within_fits sizes 0 free b _
    (after_within sizes sizes 0 free free b _ _ (arguments_within arguments free b) (λ us l _.
    within_more sizes 0 free (sizes us) l _ (weak sizes _ l _ (calls_bounded merge functions f us (free - sizes us) l))))
