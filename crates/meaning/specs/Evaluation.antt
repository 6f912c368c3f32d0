-- What an expression comes to.
--
-- `names` are the values of the names in scope, `free` is the number of bytes of the store above the present top, and
-- `budget` the number of steps that may still be taken.
use Rattle.std.specs.Prelude.{◌≡◌, ℕ, zero, suc, ◌+◌, ◌-◌, true, false, cond, List, [], ◌∷◌, ◌++◌, length, get_or, replicate, ℤ, pos, negsuc, ◌+ℤ◌, ◌-ℤ◌, ◌≤ℤ◌, int_le, int_lt, nat_le, slice_index_or}
use Rattle.std.proofs.Common.{arith}
use Rattle.std.proofs.lemmas.Int.{ints}
use Rattle.numbers.specs.declared.number.Number.{Number}
use Rattle.numbers.specs.declared.fault.Fault.TheVariants.{MissElt}
use Rattle.numbers.specs.declared.integer.Integer.{Integer}
use Rattle.numbers.specs.declared.integer.Integer.TheVariants as integers
use Rattle.numbers.specs.declared.boolean.Boolean.{Boolean}
use Rattle.numbers.specs.declared.boolean.Boolean.TheVariants as booleans
use Rattle.numbers.specs.Integers.{greatest, least, by_test}
use Rattle.values.specs.Values.{Value, row, members, size, sizes}
use Rattle.language.specs.declared.merge.Merge.{Merge}
use Rattle.language.specs.Syntax.{Expr, Exprs, LoopEnd, LoopEnds, Function, arity, arity_first}
use Rattle.meaning.specs.Outcomes.{Outcome, finished, spent, step, after, when_room, lay}
use Rattle.meaning.specs.Operations.{undef, as_integer, as_boolean, unary_result, binary_result, operating}

-- What a loop end comes to: the values for another turn, or the loop's results.
pub data Turn : Type 0 where
  again : List Value → Turn
  ended : List Value → Turn

-- The value that a forall lays for its parts: by the steps left at its beginning, which tell it from every other forall
-- of the run, by what it merges with, and by its low index.
abbrev pub Merging : Type 0
Merging = (left : ℕ) → Merge → (low : Number) → (parts : List Value) → Value

-- What a function makes of its arguments, which stand on top of the store.
abbrev pub Meaning : Type 0
Meaning = (arguments : List Value) (free budget : ℕ) → Outcome (List Value)

-- A call of no function, which no checked module makes.
abbrev pub no_function : Meaning
no_function arguments free budget = spent

abbrev pub undefs : ℕ → List Value
undefs n = replicate n undef

abbrev pub first : List Value → Value
first vs = slice_index_or vs 0 undef

abbrev pub single : Value → List Value
single v = v ∷ []

-- Lay a single result above operands of `under` bytes.
abbrev pub lay_one : (under free : ℕ) → Value → (left : ℕ) → Outcome (List Value)
lay_one under free v left = lay (under + size v) free (single v) left

-- Lay undef for each of so many results, of two bytes each.
abbrev pub lay_undefs : (results free left : ℕ) → Outcome (List Value)
lay_undefs results free left = lay (results + results) free (undefs results) left

-- ── Values taken apart ──

-- By a test: true, false, or an error.
unfoldable pub branch : {A : Type 0} → Boolean → (taken other wrong : ℕ → Outcome A) → ℕ → Outcome A
branch (booleans.Proper true) taken other wrong left = taken left
branch (booleans.Proper false) taken other wrong left = other left
branch (booleans.Error f) taken other wrong left = wrong left

-- By the tag of a union, with its constituent; anything else is an error.
unfoldable pub by_tag : {A : Type 0} → Value → (arm : ℕ → Value → ℕ → Outcome A) → (wrong : ℕ → Outcome A) → ℕ → Outcome A
by_tag (Value.boolean b) arm wrong left = wrong left
by_tag (Value.integer n) arm wrong left = wrong left
by_tag (Value.error f) arm wrong left = wrong left
by_tag (Value.array low vs) arm wrong left = wrong left
by_tag (Value.record_of vs) arm wrong left = wrong left
by_tag (Value.union tag v) arm wrong left = arm tag v left

-- The field of a number; undef of what is no record.
unfoldable pub field_of : ℕ → Value → Value
field_of n (Value.boolean b) = undef
field_of n (Value.integer m) = undef
field_of n (Value.error f) = undef
field_of n (Value.array low vs) = undef
field_of n (Value.record_of vs) = slice_index_or (members vs) n undef
field_of n (Value.union tag v) = undef

-- The member at a place before or behind the beginning of a list; miss_elt where there is none.
abbrev pub at_place : List Value → ℤ → Value
at_place vs (pos n) = slice_index_or vs n (Value.error MissElt)
at_place vs (negsuc n) = Value.error MissElt

-- The element with the index i, where the first has the index low.
abbrev pub at_index : (low : Number) → List Value → (i : Number) → Value
at_index low vs i = at_place vs (i.value -ℤ low.value)

unfoldable pub element_at : Value → Integer → Value
element_at (Value.boolean b) i = undef
element_at (Value.integer n) i = undef
element_at (Value.error f) i = undef
element_at (Value.array low vs) (integers.Proper i) = at_index low (members vs) i
element_at (Value.array low vs) (integers.Error f) = undef
element_at (Value.record_of vs) i = undef
element_at (Value.union tag v) i = undef

-- An element of an array; undef of what is no array, or at an index that is an error.
abbrev pub element_of : Value → Value → Value
element_of a i = element_at a (as_integer i)

-- An array from a low index on; without elements it begins at 1.
abbrev pub one : Number
one = record { value = pos 1; proper = (omega (arith, ints), omega (arith, ints)) }

abbrev pub array_from : (low : Number) → List Value → Value
array_from low [] = Value.array one (row [])
array_from low (v ∷ vs) = Value.array low (row (v ∷ vs))

-- The same, if no index passes M; with a low index that is an error, or one too great, undef.
unfoldable pub array_at : Integer → List Value → Value
array_at (integers.Proper low) vs = cond (int_le (low.value +ℤ pos (length vs)) (pos 2147483648)) (array_from low vs) undef
array_at (integers.Error f) vs = undef

abbrev pub array_of : Value → List Value → Value
array_of low vs = array_at (as_integer low) vs

-- ── Loops ──

unfoldable pub turned : (List Value → ℕ → Outcome (List Value)) → Turn → ℕ → Outcome (List Value)
turned next (again vs) left = next vs left
turned next (ended vs) left = finished vs left

-- At most `fuel` turns. Every turn takes a step, so that as much fuel as budget is enough.
unfoldable pub loop : (turn : List Value → ℕ → Outcome Turn) → (fuel : ℕ) → List Value → ℕ → Outcome (List Value)
loop turn zero vs budget = spent
loop turn (suc fuel) vs budget = after (turn vs budget) (turned (λ us left. loop turn fuel us left))

-- The proper number after n; behind M there is none, and M stays.
pub above_least : (n : Number) → int_lt n.value greatest ≡ true → least ≤ℤ (n.value +ℤ pos 1)
above_least n e = omega (arith, ints, n.proper.0)

pub below_greatest : (n : Number) → int_lt n.value greatest ≡ true → (n.value +ℤ pos 1) ≤ℤ greatest
below_greatest n e = omega (arith, ints)

unfoldable pub next_index : Number → Number
next_index n =
    by_test (int_lt n.value greatest)
    (λ e. record { value = n.value +ℤ pos 1; proper = (above_least n e, below_greatest n e) })
    (λ _. n)

-- How many indices there are from low to high.
abbrev pub not_negative : ℤ → ℕ
not_negative (pos n) = n
not_negative (negsuc n) = 0

unfoldable pub span : (low high : Number) → ℕ
span low high = not_negative (high.value +ℤ pos 1 -ℤ low.value)

-- The parts at `count` indices from i on, above parts of `under` bytes. Each index takes five bytes while its part is
-- worked out above it.
unfoldable pub parts_from : (part : Number → (free budget : ℕ) → Outcome (List Value)) → (count : ℕ) → Number → (under free budget : ℕ)
    → Outcome (List Value)
parts_from part zero i under free budget = finished [] budget
parts_from part (suc count) i under free budget =
    when_room
    (nat_le (under + 5) free)
    (λ left. after (part i (free - (under + 5)) left) (λ vs left₁.
    after (parts_from part count (next_index i) (under + size (first vs)) free left₁) (λ us left₂. finished (first vs ∷ us) left₂)))
    budget

-- The parts of a range, and what is made of them; undef where an end of the range is an error.
unfoldable pub range_parts : (part : Number → (free budget : ℕ) → Outcome (List Value)) → (made : Number → List Value → Value) → (low high : Integer)
    → (free budget : ℕ) → Outcome (List Value)
range_parts part made (integers.Proper low) (integers.Proper high) free budget =
    after (parts_from part (span low high) low 0 free budget) (λ vs left. lay_one (sizes vs) free (made low vs) left)
range_parts part made (integers.Proper low) (integers.Error f) free budget = lay_one 0 free undef budget
range_parts part made (integers.Error f) high free budget = lay_one 0 free undef budget

-- ── Expressions ──

-- `counts` are the numbers of results of the functions that can be called, and `callees` their meanings.
module _ (merge : Merging) (counts : List ℕ) (callees : List Meaning) where
  unfoldable mutual
    pub eval : Expr → (names : List Value) (free budget : ℕ) → Outcome (List Value)
    eval (Expr.list es) names free budget = step budget (λ left. eval_members es names free left)
    eval (Expr.integer n) names free budget = step budget (λ left. lay_one 0 free (Value.integer n) left)
    eval (Expr.boolean b) names free budget = step budget (λ left. lay_one 0 free (Value.boolean b) left)
    eval (Expr.error f t) names free budget = step budget (λ left. lay_one 0 free (Value.error f) left)
    eval (Expr.name n) names free budget = step budget (λ left. lay_one 0 free (slice_index_or names n undef) left)
    eval (Expr.unary op a) names free budget =
        step budget (λ left. after (eval a names free left) (λ us left₁.
        lay_one (sizes us) free (unary_result op (first us)) left₁))
    eval (Expr.binary op a b) names free budget =
        step budget (λ left. after (eval a names free left) (λ us left₁.
        after (eval b names (free - sizes us) left₁) (λ vs left₂.
        lay_one (sizes us + sizes vs) free (binary_result op (first us) (first vs)) left₂)))
    -- the test is removed before anything more is laid
    eval (Expr.if test taken other) names free budget =
        step budget (λ left. after (eval test names free left) (λ us left₁.
        branch (as_boolean (first us))
        (λ l. eval taken names free l)
        (λ l. eval other names free l)
        (λ l. lay_undefs (arity counts taken) free l)
        left₁))
    eval (Expr.let_in definition body) names free budget =
        step budget (λ left. after (eval definition names free left) (λ us left₁.
        eval body (names ++ us) (free - sizes us) left₁))
    -- the constituent is laid above the union, which is then removed
    eval (Expr.tagcase test arms) names free budget =
        step budget (λ left. after (eval test names free left) (λ us left₁.
        by_tag (first us)
        (λ tag v l. after (lay (sizes us + size v) free v l) (λ w left₂.
        eval_arm arms tag (names ++ single w) (free - size w) left₂))
        (λ l. lay_undefs (arity_first counts arms) free l)
        left₁))
    eval (Expr.for uses initial end) names free budget =
        step budget (λ left. after (eval initial names free left) (λ us left₁.
        loop (λ vs b. eval_end (length uses) end (names ++ vs) (free - sizes vs) b) left₁ us left₁))
    -- both ends of the range are removed before the first index is laid
    eval (Expr.forall m low high part) names free budget =
        step budget (λ left. after (eval low names free left) (λ us left₁.
        after (eval high names (free - sizes us) left₁) (λ vs left₂.
        range_parts
        (λ i f b. eval part (names ++ single (Value.integer i)) f b)
        (merge left m)
        (as_integer (first us))
        (as_integer (first vs))
        free
        left₂)))
    eval (Expr.call f argument) names free budget =
        step budget (λ left. after (eval argument names free left) (λ us left₁.
        get_or callees f no_function us (free - sizes us) left₁))
    eval (Expr.record_of t e) names free budget =
        step budget (λ left. after (eval e names free left) (λ us left₁.
        lay_one (sizes us) free (Value.record_of (row us)) left₁))
    eval (Expr.field n e) names free budget =
        step budget (λ left. after (eval e names free left) (λ us left₁.
        lay_one (sizes us) free (field_of n (first us)) left₁))
    eval (Expr.union t tag e) names free budget =
        step budget (λ left. after (eval e names free left) (λ us left₁.
        lay_one (sizes us) free (Value.union tag (first us)) left₁))
    eval (Expr.array t low es) names free budget =
        step budget (λ left. after (eval low names free left) (λ us left₁.
        after (eval es names (free - sizes us) left₁) (λ vs left₂.
        lay_one (sizes us + sizes vs) free (array_of (first us) vs) left₂)))
    eval (Expr.element a i) names free budget =
        step budget (λ left. after (eval a names free left) (λ us left₁.
        after (eval i names (free - sizes us) left₁) (λ vs left₂.
        lay_one (sizes us + sizes vs) free (element_of (first us) (first vs)) left₂)))

    -- Each member above the one before.
    pub eval_members : Exprs → (names : List Value) (free budget : ℕ) → Outcome (List Value)
    eval_members Exprs.none names free budget = finished [] budget
    eval_members (Exprs.◌then◌ e es) names free budget =
        after (eval e names free budget) (λ us left.
        after (eval_members es names (free - sizes us) left) (λ vs left₁. finished (us ++ vs) left₁))

    -- The arm of a tag; a checked module has one for each.
    pub eval_arm : Exprs → (tag : ℕ) → (names : List Value) (free budget : ℕ) → Outcome (List Value)
    eval_arm Exprs.none tag names free budget = spent
    eval_arm (Exprs.◌then◌ e es) zero names free budget = eval e names free budget
    eval_arm (Exprs.◌then◌ e es) (suc tag) names free budget = eval_arm es tag names free budget

    -- The end of a loop with so many results; `free` is above all that stands in the present turn.
    pub eval_end : (results : ℕ) → LoopEnd → (names : List Value) (free budget : ℕ) → Outcome Turn
    eval_end results (LoopEnd.iter e) names free budget =
        step budget (λ left. after (eval e names free left) (λ us left₁. finished (again us) left₁))
    eval_end results (LoopEnd.done e) names free budget =
        after (eval e names free budget) (λ us left. finished (ended us) left)
    eval_end results (LoopEnd.if_end test taken other) names free budget =
        step budget (λ left. after (eval test names free left) (λ us left₁.
        branch (as_boolean (first us))
        (λ l. eval_end results taken names free l)
        (λ l. eval_end results other names free l)
        (λ l. after (lay_undefs results free l) (λ vs left₂. finished (ended vs) left₂))
        left₁))
    eval_end results (LoopEnd.let_end definition body) names free budget =
        step budget (λ left. after (eval definition names free left) (λ us left₁.
        eval_end results body (names ++ us) (free - sizes us) left₁))
    eval_end results (LoopEnd.tagcase_end test arms) names free budget =
        step budget (λ left. after (eval test names free left) (λ us left₁.
        by_tag (first us)
        (λ tag v l. after (lay (sizes us + size v) free v l) (λ w left₂.
        eval_arm_end results arms tag (names ++ single w) (free - size w) left₂))
        (λ l. after (lay_undefs results free l) (λ vs left₂. finished (ended vs) left₂))
        left₁))

    pub eval_arm_end : (results : ℕ) → LoopEnds → (tag : ℕ) → (names : List Value) (free budget : ℕ) → Outcome Turn
    eval_arm_end results LoopEnds.no_ends tag names free budget = spent
    eval_arm_end results (LoopEnds.◌or◌ e es) zero names free budget = eval_end results e names free budget
    eval_arm_end results (LoopEnds.◌or◌ e es) (suc tag) names free budget = eval_arm_end results es tag names free budget

-- What each of a module's functions means: a function is given the meanings of those before it.
unfoldable pub meanings_from : Merging → (counts : List ℕ) → List Meaning → List Function → List Meaning
meanings_from merge counts ms [] = ms
meanings_from merge counts ms (f ∷ fs) =
    meanings_from merge
    (counts ++ length f.results ∷ [])
    (ms ++ (λ us free budget. eval merge counts ms f.body us free budget) ∷ [])
    fs

abbrev pub meanings : Merging → List Function → List Meaning
meanings merge functions = meanings_from merge [] [] functions

-- A run of a function: the arguments are laid first, which takes no step. `free` is above the entries.
unfoldable pub run : Merging → List Function → (function : ℕ) → (arguments : List Value) → (free budget : ℕ) → Outcome (List Value)
run merge functions f arguments free budget =
    after (lay (sizes arguments) free arguments budget) (λ us left.
    get_or (meanings merge functions) f no_function us (free - sizes us) left)

-- Names all that a run is worked out by: a proof that unfolds it can work one out.
unfoldable pub computing : Unit {0}
unfolding step after when_room lay size sizes arity branch by_tag turned field_of element_at array_at loop next_index span parts_from range_parts operating eval meanings_from run
computing = tt
