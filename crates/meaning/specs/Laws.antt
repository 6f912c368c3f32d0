-- What holds of every run.
use Rattle.std.specs.Prelude.{◌≡◌, ℕ, zero, suc, ◌+◌, ◌-◌, ◌<◌, ◌≤◌, List, [], ◌∷◌, ◌++◌, length, pos, ◌+ℤ◌, ◌≤ℤ◌, ◌<ℤ◌, Some, slice_index_or}
use Rattle.std.specs.List.{slice_get}
use Rattle.numbers.specs.declared.number.Number.{Number}
use Rattle.merging.specs.Operators.{most}
use Rattle.merging.specs.Bundles.{Merges}
use Rattle.values.specs.declared.row.Row.{Row}
use Rattle.values.specs.Trees.{Of}
use Rattle.values.specs.Rows.{tree_at}
use Rattle.values.specs.Values.{Value, sizes}
use Rattle.language.specs.declared.merge.Merge.{Merge}
use Rattle.language.specs.Syntax.{Expr, LoopEnd, Function, Module}
use Rattle.language.specs.Typing.{WellTyped}
use Rattle.meaning.specs.Outcomes.{Outcome, finished, spent, full, after, Keeps}
use Rattle.meaning.specs.Evaluation.{Merging, no_function, Turn, turned, loop, next_index, span, eval, eval_end, meanings, run}
use Rattle.meaning.specs.Runs.{merged, Definitions, Groupings, merged_under}

-- The greatest length of a store.
abbrev pub longest : ℕ
longest = 65536

-- ── Orders and groupings ──

-- No more than 32,768 parts are ever merged: two ways to merge that agree on so many give the same outcome.
abbrev pub FewAreMerged : Type 0
FewAreMerged =
    (merge merge' : Merging)
    → ((left : ℕ) (m : Merge) (low : Number) (vs : List Value) → length vs ≤ most → merge left m low vs ≡ merge' left m low vs)
    → (functions : List Function) (f : ℕ) (arguments : List Value) (free budget : ℕ)
    → free ≤ longest
    → run merge functions f arguments free budget ≡ run merge' functions f arguments free budget

-- Every order and grouping of the operators' own definitions gives the same outcome as the meanings of the lists: the
-- results, the steps, and whether the run is spent or full.
abbrev pub GroupingIsFree : {P T X N A O : Type 0} → Merges → Definitions P T X N A O → Type 0
GroupingIsFree merges d =
    (g : Groupings) (functions : List Function) (f : ℕ) (arguments : List Value) (free budget : ℕ)
    → free ≤ longest
    → run (merged_under d g) functions f arguments free budget ≡ run (merged merges) functions f arguments free budget

-- ── Budgets ──

-- o' is what o comes to with k steps more: the same with k steps more left, unless o ran out of steps.
unfoldable pub Later : {A : Type 0} → (k : ℕ) → (o o' : Outcome A) → Type 0
Later k (finished a left) o' = o' ≡ finished a (left + k)
Later k spent o' = Unit {0}
Later k (full left) o' = o' ≡ full (left + k)

-- A greater budget changes nothing once a run is finished or full: it takes the same steps.
abbrev pub BudgetOnlyStops : Type 0
BudgetOnlyStops =
    (merges : Merges) (functions : List Function) (f : ℕ) (arguments : List Value) (free budget k : ℕ)
    → Later k (run (merged merges) functions f arguments free budget) (run (merged merges) functions f arguments free (budget + k))

-- What is left of a budget: nothing where it is spent.
abbrev pub left_of : {A : Type 0} → Outcome A → ℕ
left_of (finished a left) = left
left_of spent = 0
left_of (full left) = left

-- The steps that were taken out of a budget: all of it where it is spent.
abbrev pub steps_of : {A : Type 0} → (budget : ℕ) → Outcome A → ℕ
steps_of budget o = budget - left_of o

-- Steps taken and steps left make up the budget; where a run finished, it took a step at least.
pub record Counts {A : Type 0} (budget : ℕ) (o : Outcome A) : Type 0 where
  pub adds_up : steps_of budget o + left_of o ≡ budget
  pub costs : Keeps (λ _. 1 ≤ steps_of budget o) o

abbrev pub StepsAreCounted : Type 0
StepsAreCounted =
    (merge : Merging) (functions : List Function) (f : ℕ) (arguments : List Value) (free budget : ℕ)
    → Counts budget (run merge functions f arguments free budget)

-- ── Calls ──

-- How many results each function has.
unfoldable pub counts_of : List Function → List ℕ
counts_of [] = []
counts_of (f ∷ fs) = length f.results ∷ counts_of fs

-- A call of a function of a checked module is its body, where calls in it are those of the module's own functions.
abbrev pub CallsRunBodies : Type 0
CallsRunBodies =
    (merge : Merging) (m : Module) → WellTyped m
    → (number : ℕ) (f : Function) → slice_get m.functions number ≡ Some f
    → (arguments : List Value) (free budget : ℕ)
    → slice_index_or (meanings merge m.functions) number no_function arguments free budget
    ≡ eval merge (counts_of m.functions) (meanings merge m.functions) f.body arguments free budget

-- ── Loops ──

-- Fewer steps are left than there were, unless there was none.
unfoldable pub Below : {A : Type 0} → ℕ → Outcome A → Type 0
Below budget (finished a left) = left < budget
Below budget spent = Unit {0}
Below budget (full left) = left < budget

-- Every expression takes a step.
abbrev pub ExpressionsStep : Type 0
ExpressionsStep =
    (merge : Merging) (functions : List Function) (e : Expr) (names : List Value) (free budget : ℕ)
    → Below budget (eval merge (counts_of functions) (meanings merge functions) e names free budget)

-- A turn of a loop with so many results and this end.
abbrev pub turn_of : Merging → List Function → (results : ℕ) → LoopEnd → (names : List Value) → (free : ℕ) → List Value → ℕ → Outcome Turn
turn_of merge functions results end names free vs budget =
    eval_end merge (counts_of functions) (meanings merge functions) results end (names ++ vs) (free - sizes vs) budget

-- The bound on the turns of a loop means nothing: any that is not below the budget gives the same, which is the first
-- turn and then the loop again, or its results.
pub record Unbounded (turn : List Value → ℕ → Outcome Turn) (vs : List Value) (budget : ℕ) : Type 0 where
  pub any_bound : (fuel : ℕ) → budget ≤ fuel → loop turn fuel vs budget ≡ loop turn budget vs budget
  pub turns : loop turn budget vs budget ≡ after (turn vs budget) (turned (λ us left. loop turn left us left))

abbrev pub LoopsAreUnbounded : Type 0
LoopsAreUnbounded =
    (merge : Merging) (functions : List Function) (results : ℕ) (end : LoopEnd) (names : List Value) (free : ℕ) (vs : List Value) (budget : ℕ)
    → Unbounded (turn_of merge functions results end names free) vs budget

-- ── Indices ──

-- The index k places after i.
abbrev pub index_after : (i : Number) → (k : ℕ) → Number
index_after i zero = i
index_after i (suc k) = index_after (next_index i) k

-- A forall goes through low, low + 1 and so on to high, where low is not above high, and through nothing where it is.
pub record Upward (low high : Number) : Type 0 where
  pub each : (k : ℕ) → k < span low high → (index_after low k).value ≡ low.value +ℤ pos k
  pub up_to_high : low.value ≤ℤ high.value → low.value +ℤ pos (span low high) ≡ high.value +ℤ pos 1
  pub nothing : high.value <ℤ low.value → span low high ≡ 0

abbrev pub IndicesGoUp : Type 0
IndicesGoUp = (low high : Number) → Upward low high

-- ── Room ──

-- o' is what o comes to with more room: the same, unless o ran out of room.
unfoldable pub Roomier : {A : Type 0} → (o o' : Outcome A) → Type 0
Roomier (finished a left) o' = o' ≡ finished a left
Roomier spent o' = o' ≡ spent
Roomier (full left) o' = Unit {0}

-- More room changes nothing, unless a run was full.
abbrev pub RoomOnlyStops : Type 0
RoomOnlyStops =
    (merge : Merging) (functions : List Function) (f : ℕ) (arguments : List Value) (free budget k : ℕ)
    → Roomier (run merge functions f arguments free budget) (run merge functions f arguments (free + k) budget)

-- What a run finishes with fits the room that it had.
abbrev pub ResultsFit : Type 0
ResultsFit =
    (merge : Merging) (functions : List Function) (f : ℕ) (arguments : List Value) (free budget : ℕ)
    → Keeps (λ vs. sizes vs ≤ free) (run merge functions f arguments free budget)

-- ── Types ──

-- As many values as types, each of its own type over the rows.
unfoldable pub AllOf : List Row → List Value → (types : List ℕ) → Type 0
AllOf rows [] [] = Unit {0}
AllOf rows [] (t ∷ ts) = ⊥
AllOf rows (v ∷ vs) [] = ⊥
AllOf rows (v ∷ vs) (t ∷ ts) = Of (tree_at rows t) v × AllOf rows vs ts

-- A function of a checked module, run on values of its parameters' types, gives results of the declared number and types.
abbrev pub TypesAreKept : Type 0
TypesAreKept =
    (merges : Merges) (m : Module) → WellTyped m
    → (number : ℕ) (f : Function) → slice_get m.functions number ≡ Some f
    → (arguments : List Value) → AllOf m.rows arguments f.parameters
    → (free budget : ℕ) → free ≤ longest
    → Keeps (λ vs. AllOf m.rows vs f.results) (run (merged merges) m.functions number arguments free budget)
