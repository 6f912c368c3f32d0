-- What an expression lays fits the room that it was given, and every expression takes a step.
use Rattle.std.proofs.Common.{◌≡◌, ℕ, zero, suc, ◌+◌, ◌-◌, ◌≤◌, Bool, true, false, T, leb, List, [], ◌∷◌, ◌++◌, get_or, refl, arith, leb→le}
use Rattle.numbers.specs.declared.number.Number.{Number}
use Rattle.numbers.specs.declared.integer.Integer.{Integer}
use Rattle.numbers.specs.declared.integer.Integer.TheVariants as integers
use Rattle.numbers.specs.declared.boolean.Boolean.{Boolean}
use Rattle.numbers.specs.declared.boolean.Boolean.TheVariants as booleans
use Rattle.values.specs.Values.{Value, size, sizes}
use Rattle.values.proofs.Prefixes.{sizes_append}
use Rattle.language.specs.Syntax.{Expr, Exprs, LoopEnd, LoopEnds, Function}
use Rattle.meaning.specs.Outcomes.{Outcome, finished, spent, full, step, after, when_room, lay}
use Rattle.meaning.specs.Evaluation.{Merging, Meaning, Turn, again, ended, turned, no_function, branch, by_tag, first, single, undefs, lay_one, lay_undefs, loop, next_index, span, parts_from, range_parts, eval, eval_members, eval_arm, eval_end, eval_arm_end, meanings}
use Rattle.meaning.proofs.Functions.{pair_at, every_meaning}

-- What is finished takes at most `room` bytes, and at least c steps of the budget b were taken, where it is full too.
unfoldable pub Within : {A : Type 0} → (bytes : A → ℕ) → (c room b : ℕ) → Outcome A → Type 0
Within bytes c room b (finished a left) = (bytes a ≤ room) × (left + c ≤ b)
Within bytes c room b spent = Unit {0}
Within bytes c room b (full left) = left + c ≤ b

abbrev pub turn_bytes : Turn → ℕ
turn_bytes (again vs) = sizes vs
turn_bytes (ended vs) = sizes vs

-- Bytes that are not counted.
abbrev pub no_bytes : {A : Type 0} → A → ℕ
no_bytes a = 0

module _ {A : Type 0} (bytes : A → ℕ) where
  -- Less may be said: fewer steps, a greater budget, more room.
  pub widen : (c d room room' l b : ℕ) (o : Outcome A) → Within bytes c room l o → l + d ≤ b + c → room ≤ room' → Within bytes d room' b o
  unfolding Within
  widen c d room room' l b (finished a m) h k r = (omega (arith, h.0), omega (arith, h.1))
  widen c d room room' l b spent h k r = tt
  widen c d room room' l b (full m) h k r = omega arith

  pub weak : (room b : ℕ) (o : Outcome A) → Within bytes 1 room b o → Within bytes 0 room b o
  weak room b o h = widen 1 0 room room b b o h (omega arith) (omega arith)

  pub within_more : (c room n b : ℕ) (o : Outcome A) → Within bytes c (room - n) b o → Within bytes c room b o
  within_more c room n b o h = widen c c (room - n) room b b o h (omega arith) (omega arith)

  pub finished_within : (a : A) (room l : ℕ) → bytes a ≤ room → Within bytes 0 room l (finished a l)
  unfolding Within
  finished_within a room l h = (h, omega arith)

  pub spent_within : (c room b : ℕ) → Within bytes c room b spent
  unfolding Within
  spent_within c room b = tt

  pub step_within : (room b : ℕ) (next : ℕ → Outcome A) → ((l : ℕ) → Within bytes 0 room l (next l)) → Within bytes 1 room b (step b next)
  unfolding step
  step_within room zero next h = spent_within 1 room 0
  step_within room (suc l) next h = widen 0 1 room room l (suc l) (next l) (h l) (omega arith) (omega arith)

  room_within : (need free room : ℕ) (next : ℕ → Outcome A) (l : ℕ) → (need ≤ free → Within bytes 0 room l (next l))
      → Within bytes 0 room l (when_room (leb need free) next l)
  unfolding when_room Within
  room_within need free room next l h = by (leb need free) (λ t. h (leb→le need free t))
    where
      by : (b : Bool) → (T b → Within bytes 0 room l (next l)) → Within bytes 0 room l (when_room b next l)
      by true k = k tt
      by false k = omega arith

  pub lay_within : (need free room : ℕ) (a : A) (l : ℕ) → (need ≤ free → bytes a ≤ room) → Within bytes 0 room l (lay need free a l)
  unfolding lay
  lay_within need free room a l h = room_within need free room (finished a) l (λ n. finished_within a room l (h n))

  pub branch_within : (room b : ℕ) (t : Boolean) (taken other wrong : ℕ → Outcome A) (l : ℕ)
      → Within bytes 0 room b (taken l) → Within bytes 0 room b (other l) → Within bytes 0 room b (wrong l)
      → Within bytes 0 room b (branch t taken other wrong l)
  unfolding branch
  branch_within room b (booleans.Proper true) taken other wrong l h₁ h₂ h₃ = h₁
  branch_within room b (booleans.Proper false) taken other wrong l h₁ h₂ h₃ = h₂
  branch_within room b (booleans.Error f) taken other wrong l h₁ h₂ h₃ = h₃

  pub tag_within : (room b : ℕ) (v : Value) (arm : ℕ → Value → ℕ → Outcome A) (wrong : ℕ → Outcome A) (l : ℕ)
      → ((tag : ℕ) (w : Value) → Within bytes 0 room b (arm tag w l)) → Within bytes 0 room b (wrong l) → Within bytes 0 room b (by_tag v arm wrong l)
  unfolding by_tag
  tag_within room b (Value.boolean x) arm wrong l h k = k
  tag_within room b (Value.integer n) arm wrong l h k = k
  tag_within room b (Value.error f) arm wrong l h k = k
  tag_within room b (Value.array low vs) arm wrong l h k = k
  tag_within room b (Value.record_of vs) arm wrong l h k = k
  tag_within room b (Value.union tag w) arm wrong l h k = h tag w

pub after_within : {A B : Type 0} (bytes : A → ℕ) (bytes' : B → ℕ) (c room room' b : ℕ) (o : Outcome A) (next : A → ℕ → Outcome B)
    → Within bytes c room b o → ((a : A) (l : ℕ) → bytes a ≤ room → Within bytes' 0 room' l (next a l)) → Within bytes' c room' b (after o next)
unfolding after Within
after_within bytes bytes' c room room' b (finished a l) next h f =
    widen bytes' 0 c room' room' l b (next a l) (f a l h.0) (omega (arith, h.1)) (omega arith)
after_within bytes bytes' c room room' b spent next h f = tt
after_within bytes bytes' c room room' b (full l) next h f = h

-- A part, and what follows it.
follow : {B : Type 0} (bytes : B → ℕ) (room room' b : ℕ) (o : Outcome (List Value)) (next : List Value → ℕ → Outcome B)
    → Within sizes 1 room b o → ((us : List Value) (l : ℕ) → sizes us ≤ room → Within bytes 0 room' l (next us l))
    → Within bytes 0 room' b (after o next)
follow bytes room room' b o next h f = after_within sizes bytes 0 room room' b o next (weak sizes room b o h) f

-- ── Sizes ──

sizes_undefs : (n : ℕ) → sizes (undefs n) ≡ n + n
unfolding sizes size
sizes_undefs zero = refl
sizes_undefs (suc n) = omega (arith, sizes_undefs n)

none_size : sizes [] ≡ 0
unfolding sizes
none_size = refl

one_size : (v : Value) → sizes (single v) ≡ size v
unfolding sizes
one_size v = omega arith

one_within : (under free : ℕ) (v : Value) (l : ℕ) → Within sizes 0 free l (lay_one under free v l)
one_within under free v l = lay_within sizes (under + size v) free free (single v) l (λ n. omega (arith, one_size v))

undefs_within : (n free l : ℕ) → Within sizes 0 free l (lay_undefs n free l)
undefs_within n free l = lay_within sizes (n + n) free free (undefs n) l (λ h. omega (arith, sizes_undefs n))

ended_within : (free b : ℕ) (o : Outcome (List Value)) → Within sizes 0 free b o
    → Within turn_bytes 0 free b (after o (λ vs l. finished (ended vs) l))
ended_within free b o h = after_within sizes turn_bytes 0 free free b o _ h (λ vs l k. finished_within turn_bytes (ended vs) free l k)

-- ── Loops and parts ──

turned_within : (free : ℕ) (next : List Value → ℕ → Outcome (List Value)) → ((vs : List Value) (l : ℕ) → Within sizes 0 free l (next vs l))
    → (t : Turn) (l : ℕ) → turn_bytes t ≤ free → Within sizes 0 free l (turned next t l)
unfolding turned
turned_within free next f (again vs) l h = f vs l
turned_within free next f (ended vs) l h = finished_within sizes vs free l h

loop_within : (free : ℕ) (turn : List Value → ℕ → Outcome Turn) → ((vs : List Value) (l : ℕ) → Within turn_bytes 0 free l (turn vs l))
    → (fuel : ℕ) (vs : List Value) (b : ℕ) → Within sizes 0 free b (loop turn fuel vs b)
unfolding loop
loop_within free turn h zero vs b = spent_within sizes 0 free b
loop_within free turn h (suc fuel) vs b =
    after_within turn_bytes sizes 0 free free b (turn vs b) _ (h vs b) (turned_within free _ (λ us l. loop_within free turn h fuel us l))

pub parts_bounded : (part : Number → (free budget : ℕ) → Outcome (List Value)) → ((i : Number) (free l : ℕ) → Within sizes 0 free l (part i free l))
    → (count : ℕ) (i : Number) (under free b : ℕ) → Within no_bytes 0 0 b (parts_from part count i under free b)
unfolding parts_from
parts_bounded part h zero i under free b = finished_within no_bytes [] 0 b (omega arith)
parts_bounded part h (suc count) i under free b =
    room_within no_bytes (under + 5) free 0 _ b (λ _.
    after_within sizes no_bytes 0 _ 0 b (part i (free - (under + 5)) b) _ (h i (free - (under + 5)) b) (λ vs l _.
    after_within no_bytes no_bytes 0 0 0 l (parts_from part count (next_index i) (under + size (first vs)) free l) _
    (parts_bounded part h count (next_index i) (under + size (first vs)) free l) (λ us l₁ _.
    finished_within no_bytes (first vs ∷ us) 0 l₁ (omega arith))))

range_within : (part : Number → (free budget : ℕ) → Outcome (List Value)) → ((i : Number) (free l : ℕ) → Within sizes 0 free l (part i free l))
    → (made : Number → List Value → Value) (low high : Integer) (free b : ℕ) → Within sizes 0 free b (range_parts part made low high free b)
unfolding range_parts
range_within part h made (integers.Proper low) (integers.Proper high) free b =
    after_within no_bytes sizes 0 0 free b _ _ (parts_bounded part h (span low high) low 0 free b) (λ vs l _. one_within (sizes vs) free _ l)
range_within part h made (integers.Proper low) (integers.Error f) free b = one_within 0 free _ b
range_within part h made (integers.Error f) high free b = one_within 0 free _ b

-- ── Expressions ──

-- What is asked of the functions that may be called.
abbrev pub Bounded : Meaning → Type 0
Bounded m = (us : List Value) (free b : ℕ) → Within sizes 1 free b (m us free b)

module _ (merge : Merging) (counts : List ℕ) (callees : List Meaning) (calls : (f : ℕ) → Bounded (get_or callees f no_function)) where
  mutual
    unfolding eval

    pub within : (e : Expr) (names : List Value) (free b : ℕ) → Within sizes 1 free b (eval merge counts callees e names free b)
    within (Expr.list es) names free b = step_within sizes free b _ (λ l. members_within es names free l)
    within (Expr.integer n) names free b = step_within sizes free b _ (λ l. one_within 0 free _ l)
    within (Expr.boolean x) names free b = step_within sizes free b _ (λ l. one_within 0 free _ l)
    within (Expr.error f t) names free b = step_within sizes free b _ (λ l. one_within 0 free _ l)
    within (Expr.name n) names free b = step_within sizes free b _ (λ l. one_within 0 free _ l)
    within (Expr.unary op e) names free b =
        step_within sizes free b _ (λ l. follow sizes free free l _ _ (within e names free l) (λ us l₁ _. one_within _ free _ l₁))
    within (Expr.binary op d e) names free b =
        step_within sizes free b _ (λ l. follow sizes free free l _ _ (within d names free l) (λ us l₁ _.
        follow sizes (free - sizes us) free l₁ _ _ (within e names (free - sizes us) l₁) (λ vs l₂ _. one_within _ free _ l₂)))
    within (Expr.if test taken other) names free b =
        step_within sizes free b _ (λ l. follow sizes free free l _ _ (within test names free l) (λ us l₁ _.
        branch_within sizes free l₁ _ _ _ _ l₁ (weak sizes _ l₁ _ (within taken names free l₁)) (weak sizes _ l₁ _ (within other names free l₁)) (undefs_within _ free l₁)))
    within (Expr.let_in definition body) names free b =
        step_within sizes free b _ (λ l. follow sizes free free l _ _ (within definition names free l) (λ us l₁ _.
        within_more sizes 0 free (sizes us) l₁ _ (weak sizes _ l₁ _ (within body _ _ l₁))))
    within (Expr.tagcase test arms) names free b =
        step_within sizes free b _ (λ l. follow sizes free free l _ _ (within test names free l) (λ us l₁ _.
        tag_within sizes free l₁ _ _ _ l₁
        (λ tag v. after_within no_bytes sizes 0 0 free l₁ _ _ (lay_within no_bytes _ free 0 v l₁ (λ _. omega arith)) (λ w l₂ _.
        within_more sizes 0 free (size w) l₂ _ (weak sizes _ l₂ _ (arm_within arms tag _ _ l₂))))
        (undefs_within _ free l₁)))
    within (Expr.for uses initial end) names free b =
        step_within sizes free b _ (λ l. follow sizes free free l _ _ (within initial names free l) (λ us l₁ _.
        loop_within free _ (λ vs l₂. within_more turn_bytes 0 free (sizes vs) l₂ _ (weak turn_bytes _ l₂ _ (end_within _ end _ _ l₂))) l₁ us l₁))
    within (Expr.forall m low high e) names free b =
        step_within sizes free b _ (λ l. follow sizes free free l _ _ (within low names free l) (λ us l₁ _.
        follow sizes (free - sizes us) free l₁ _ _ (within high names (free - sizes us) l₁) (λ vs l₂ _.
        range_within _ (λ i free₁ l₃. weak sizes _ l₃ _ (within e _ free₁ l₃)) _ _ _ free l₂)))
    within (Expr.call f argument) names free b =
        step_within sizes free b _ (λ l. follow sizes free free l _ _ (within argument names free l) (λ us l₁ _.
        within_more sizes 0 free (sizes us) l₁ _ (weak sizes _ l₁ _ (calls f us _ l₁))))
    within (Expr.record_of t e) names free b =
        step_within sizes free b _ (λ l. follow sizes free free l _ _ (within e names free l) (λ us l₁ _. one_within _ free _ l₁))
    within (Expr.field n e) names free b =
        step_within sizes free b _ (λ l. follow sizes free free l _ _ (within e names free l) (λ us l₁ _. one_within _ free _ l₁))
    within (Expr.union t tag e) names free b =
        step_within sizes free b _ (λ l. follow sizes free free l _ _ (within e names free l) (λ us l₁ _. one_within _ free _ l₁))
    within (Expr.array t low es) names free b =
        step_within sizes free b _ (λ l. follow sizes free free l _ _ (within low names free l) (λ us l₁ _.
        follow sizes (free - sizes us) free l₁ _ _ (within es names (free - sizes us) l₁) (λ vs l₂ _. one_within _ free _ l₂)))
    within (Expr.element a i) names free b =
        step_within sizes free b _ (λ l. follow sizes free free l _ _ (within a names free l) (λ us l₁ _.
        follow sizes (free - sizes us) free l₁ _ _ (within i names (free - sizes us) l₁) (λ vs l₂ _. one_within _ free _ l₂)))

    pub members_within : (es : Exprs) (names : List Value) (free b : ℕ) → Within sizes 0 free b (eval_members merge counts callees es names free b)
    members_within Exprs.none names free b = finished_within sizes [] free b (omega (arith, none_size))
    members_within (Exprs.◌then◌ e es) names free b =
        follow sizes free free b _ _ (within e names free b) (λ us l h.
        after_within sizes sizes 0 (free - sizes us) free l _ _ (members_within es names (free - sizes us) l) (λ vs l₁ k.
        finished_within sizes (us ++ vs) free l₁ (omega (arith, sizes_append us vs))))

    pub arm_within : (es : Exprs) (tag : ℕ) (names : List Value) (free b : ℕ)
        → Within sizes 1 free b (eval_arm merge counts callees es tag names free b)
    arm_within Exprs.none tag names free b = spent_within sizes 1 free b
    arm_within (Exprs.◌then◌ e es) zero names free b = within e names free b
    arm_within (Exprs.◌then◌ e es) (suc tag) names free b = arm_within es tag names free b

    pub end_within : (n : ℕ) (e : LoopEnd) (names : List Value) (free b : ℕ)
        → Within turn_bytes 1 free b (eval_end merge counts callees n e names free b)
    end_within n (LoopEnd.iter e) names free b =
        step_within turn_bytes free b _ (λ l. follow turn_bytes free free l _ _ (within e names free l) (λ us l₁ h.
        finished_within turn_bytes (again us) free l₁ h))
    end_within n (LoopEnd.done e) names free b =
        after_within sizes turn_bytes 1 free free b _ _ (within e names free b) (λ us l h. finished_within turn_bytes (ended us) free l h)
    end_within n (LoopEnd.if_end test taken other) names free b =
        step_within turn_bytes free b _ (λ l. follow turn_bytes free free l _ _ (within test names free l) (λ us l₁ _.
        branch_within turn_bytes free l₁ _ _ _ _ l₁ (weak turn_bytes _ l₁ _ (end_within n taken names free l₁)) (weak turn_bytes _ l₁ _ (end_within n other names free l₁)) (ended_within free l₁ _ (undefs_within n free l₁))))
    end_within n (LoopEnd.let_end definition body) names free b =
        step_within turn_bytes free b _ (λ l. follow turn_bytes free free l _ _ (within definition names free l) (λ us l₁ _.
        within_more turn_bytes 0 free (sizes us) l₁ _ (weak turn_bytes _ l₁ _ (end_within n body _ _ l₁))))
    end_within n (LoopEnd.tagcase_end test arms) names free b =
        step_within turn_bytes free b _ (λ l. follow turn_bytes free free l _ _ (within test names free l) (λ us l₁ _.
        tag_within turn_bytes free l₁ _ _ _ l₁
        (λ tag v. after_within no_bytes turn_bytes 0 0 free l₁ _ _ (lay_within no_bytes _ free 0 v l₁ (λ _. omega arith)) (λ w l₂ _.
        within_more turn_bytes 0 free (size w) l₂ _ (weak turn_bytes _ l₂ _ (arm_end_within n arms tag _ _ l₂))))
        (ended_within free l₁ _ (undefs_within n free l₁))))

    pub arm_end_within : (n : ℕ) (es : LoopEnds) (tag : ℕ) (names : List Value) (free b : ℕ)
        → Within turn_bytes 1 free b (eval_arm_end merge counts callees n es tag names free b)
    arm_end_within n LoopEnds.no_ends tag names free b = spent_within turn_bytes 1 free b
    arm_end_within n (LoopEnds.◌or◌ e es) zero names free b = end_within n e names free b
    arm_end_within n (LoopEnds.◌or◌ e es) (suc tag) names free b = arm_end_within n es tag names free b

-- ── Functions ──

pub no_function_bounded : Bounded no_function
no_function_bounded us free b = spent_within sizes 1 free b

pub calls_bounded : (merge : Merging) (functions : List Function) (f : ℕ) → Bounded (get_or (meanings merge functions) f no_function)
calls_bounded merge functions =
    pair_at Q no_function_bounded (meanings merge functions) (meanings merge functions)
    (every_meaning Q merge merge (λ counts ms ns h g us free b.
    within merge counts ms (pair_at Q no_function_bounded ms ns h) g.body us free b) functions)
  where
    Q : Meaning → Meaning → Type 0
    Q m n = Bounded m
