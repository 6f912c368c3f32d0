-- What j bytes more of room, k steps more of budget and another way to merge change in a run. One induction serves the
-- three laws: orders and groupings (j and k are 0), budgets (j is 0), and room (k is 0).
use Rattle.std.proofs.Common.{◌≡◌, ℕ, zero, suc, ◌+◌, ◌-◌, ◌≤◌, Bool, true, false, T, leb, List, [], ◌∷◌, ◌++◌, length, get_or, sym, refl, ap, subst, arith, le→leb, leb→le}
use Rattle.numbers.specs.declared.number.Number.{Number}
use Rattle.numbers.specs.declared.integer.Integer.{Integer}
use Rattle.numbers.specs.declared.integer.Integer.TheVariants as integers
use Rattle.numbers.specs.declared.boolean.Boolean.{Boolean}
use Rattle.numbers.specs.declared.boolean.Boolean.TheVariants as booleans
use Rattle.values.specs.Values.{Value, size, sizes}
use Rattle.language.specs.declared.merge.Merge.{Merge}
use Rattle.language.specs.Syntax.{Expr, Exprs, LoopEnd, LoopEnds, Function}
use Rattle.meaning.specs.Outcomes.{Outcome, finished, spent, full, step, after, when_room, lay}
use Rattle.meaning.specs.Evaluation.{Merging, Meaning, Turn, again, ended, turned, no_function, branch, by_tag, first, single, lay_one, lay_undefs, loop, next_index, span, parts_from, range_parts, eval, eval_members, eval_arm, eval_end, eval_arm_end, meanings, run}
use Rattle.meaning.proofs.Functions.{Pairs, pair_at, every_meaning}
use Rattle.meaning.proofs.Bounds.{Within, Bounded, turn_bytes, no_bytes, within_more, weak, lay_within, within, members_within, end_within, no_function_bounded, parts_bounded}

-- o' is what o grows to: the same with k steps more left; but with more steps a spent run may go on, and with more room
-- a full one.
unfoldable pub Grows : {A : Type 0} → (j k : ℕ) → (o o' : Outcome A) → Type 0
Grows j k (finished a left) o' = o' ≡ finished a (left + k)
Grows j k spent o' = k ≡ 0 → o' ≡ spent
Grows j k (full left) o' = j ≡ 0 → o' ≡ full (left + k)

module _ (j k : ℕ) where
  -- ── One lemma for each way to put outcomes together ──
  finished_grows : {A : Type 0} (a : A) (l : ℕ) → Grows j k (finished a l) (finished a (l + k))
  unfolding Grows
  finished_grows a l = refl

  spent_grows : (A : Type 0) → Grows {A = A} j k spent spent
  unfolding Grows
  spent_grows A = λ _. refl

  step_grows : {A : Type 0} (b : ℕ) (next next' : ℕ → Outcome A) → ((l : ℕ) → Grows j k (next l) (next' (l + k)))
      → Grows j k (step b next) (step (b + k) next')
  unfolding Grows step
  step_grows zero next next' h = λ e. ap (λ n. step n next') (let z : zero + k ≡ zero = omega arith in z)
  step_grows (suc l) next next' h =
      subst (λ n. Grows j k (next l) (step n next')) (let z : suc (l + k) ≡ suc l + k = omega arith in z) (h l)

  after_grows : {A B : Type 0} (bytes : A → ℕ) (c room b : ℕ) (o o' : Outcome A) (next next' : A → ℕ → Outcome B)
      → Within bytes c room b o → Grows j k o o' → ((a : A) (l : ℕ) → bytes a ≤ room → Grows j k (next a l) (next' a (l + k)))
      → Grows j k (after o next) (after o' next')
  unfolding Grows after Within
  after_grows bytes c room b (finished a l) o' next next' w h f = subst (λ x. Grows j k (next a l) (after x next')) (sym h) (f a l w.0)
  after_grows bytes c room b spent o' next next' w h f = λ e. ap (λ x. after x next') (h e)
  after_grows bytes c room b (full l) o' next next' w h f = λ e. ap (λ x. after x next') (h e)

  -- what fits still fits; what does not fit fits no better if there is no more room
  room_grows : {A : Type 0} (need need' free : ℕ) (next next' : ℕ → Outcome A) (l : ℕ) → (need ≤ free → need' ≤ free) → (need' ≤ free → need ≤ free)
      → (need ≤ free → Grows j k (next l) (next' (l + k)))
      → Grows j k (when_room (leb need free) next l) (when_room (leb need' (free + j)) next' (l + k))
  unfolding Grows when_room
  room_grows need need' free next next' l less more h =
      by (leb need free) (leb need' (free + j))
      (λ t. h (leb→le need free t))
      (λ t. le→leb need' (free + j) (omega (arith, less (leb→le need free t))))
      (λ e t. le→leb need free (more (omega (arith, leb→le need' (free + j) t))))
    where
      by : (b b' : Bool) → (T b → Grows j k (next l) (next' (l + k))) → (T b → T b') → (j ≡ 0 → T b' → T b)
          → Grows j k (when_room b next l) (when_room b' next' (l + k))
      by true true f g g' = f tt
      by true false f g g' = absurd (g tt)
      by false true f g g' = λ e. absurd (g' e tt)
      by false false f g g' = λ e. refl

  lay_grows : {A : Type 0} (need free : ℕ) (a : A) (l : ℕ) → Grows j k (lay need free a l) (lay need (free + j) a (l + k))
  unfolding lay
  lay_grows need free a l = room_grows need need free (finished a) (finished a) l (λ h. h) (λ h. h) (λ _. finished_grows a l)

  -- A result above parts that do not fit is never seen.
  seen_grows : (under free : ℕ) (v v' : Value) (l : ℕ) → (under ≤ free → v ≡ v')
      → Grows j k (lay_one under free v l) (lay_one under (free + j) v' (l + k))
  unfolding lay
  seen_grows under free v v' l h =
      room_grows (under + size v) (under + size v') free (finished (single v)) (finished (single v')) l
      (λ n. subst (λ w. under + size w ≤ free) (h (omega arith)) n)
      (λ n. subst (λ w. under + size w ≤ free) (sym (h (omega arith))) n)
      (λ n. subst (λ w. Grows j k (finished (single v) l) (finished (single w) (l + k))) (h (omega arith)) (finished_grows (single v) l))

  branch_grows : {A : Type 0} (t : Boolean) (taken other wrong taken' other' wrong' : ℕ → Outcome A) (l : ℕ)
      → Grows j k (taken l) (taken' (l + k)) → Grows j k (other l) (other' (l + k)) → Grows j k (wrong l) (wrong' (l + k))
      → Grows j k (branch t taken other wrong l) (branch t taken' other' wrong' (l + k))
  unfolding branch
  branch_grows (booleans.Proper true) _ _ _ _ _ _ l h₁ h₂ h₃ = h₁
  branch_grows (booleans.Proper false) _ _ _ _ _ _ l h₁ h₂ h₃ = h₂
  branch_grows (booleans.Error f) _ _ _ _ _ _ l h₁ h₂ h₃ = h₃

  tag_grows : {A : Type 0} (v : Value) (arm arm' : ℕ → Value → ℕ → Outcome A) (wrong wrong' : ℕ → Outcome A) (l : ℕ)
      → ((tag : ℕ) (w : Value) → Grows j k (arm tag w l) (arm' tag w (l + k))) → Grows j k (wrong l) (wrong' (l + k))
      → Grows j k (by_tag v arm wrong l) (by_tag v arm' wrong' (l + k))
  unfolding by_tag
  tag_grows (Value.boolean b) _ _ _ _ l h h₁ = h₁
  tag_grows (Value.integer n) _ _ _ _ l h h₁ = h₁
  tag_grows (Value.error f) _ _ _ _ l h h₁ = h₁
  tag_grows (Value.array low vs) _ _ _ _ l h h₁ = h₁
  tag_grows (Value.record_of vs) _ _ _ _ l h h₁ = h₁
  tag_grows (Value.union tag w) _ _ _ _ l h h₁ = h tag w

  -- What stands on n bytes of the room has as much more room.
  moved : {A : Type 0} (f : ℕ → Outcome A) (o : Outcome A) (free n : ℕ) → n ≤ free → Grows j k o (f (free - n + j)) → Grows j k o (f (free + j - n))
  moved f o free n h r = subst (λ m. Grows j k o (f m)) (omega arith) r

  -- ── Loops and parts ──
  turned_grows : (free : ℕ) (next next' : List Value → ℕ → Outcome (List Value))
      → ((vs : List Value) (l : ℕ) → sizes vs ≤ free → Grows j k (next vs l) (next' vs (l + k)))
      → (t : Turn) (l : ℕ) → turn_bytes t ≤ free → Grows j k (turned next t l) (turned next' t (l + k))
  unfolding turned
  turned_grows free next next' f (again vs) l h = f vs l h
  turned_grows free next next' f (ended vs) l h = finished_grows vs l

  loop_grows : (free : ℕ) (turn turn' : List Value → ℕ → Outcome Turn)
      → ((vs : List Value) (l : ℕ) → Within turn_bytes 0 free l (turn vs l))
      → ((vs : List Value) (l : ℕ) → sizes vs ≤ free → Grows j k (turn vs l) (turn' vs (l + k)))
      → (fuel : ℕ) (vs : List Value) (b : ℕ) → sizes vs ≤ free → Grows j k (loop turn fuel vs b) (loop turn' (fuel + k) vs (b + k))
  unfolding loop Grows
  loop_grows free turn turn' w h zero vs b f = λ e. ap (λ n. loop turn' n vs (b + k)) (let z : zero + k ≡ zero = omega arith in z)
  loop_grows free turn turn' w h (suc fuel) vs b f =
      subst (λ n. Grows j k (loop turn (suc fuel) vs b) (loop turn' n vs (b + k))) (let z : suc (fuel + k) ≡ suc fuel + k = omega arith in z)
      (after_grows turn_bytes 0 free b (turn vs b) (turn' vs (b + k)) _ _ (w vs b) (h vs b f)
      (turned_grows free _ _ (λ us l f₁. loop_grows free turn turn' w h fuel us l f₁)))

  module _ (top : ℕ) where
    parts_grow : (part part' : Number → (free budget : ℕ) → Outcome (List Value))
        → ((i : Number) (free l : ℕ) → Within sizes 0 free l (part i free l))
        → ((i : Number) (free l : ℕ) → free ≤ top → Grows j k (part i free l) (part' i (free + j) (l + k)))
        → (count : ℕ) (i : Number) (under free b : ℕ) → free ≤ top
        → Grows j k (parts_from part count i under free b) (parts_from part' count i under (free + j) (b + k))
    unfolding parts_from
    parts_grow part part' w h zero i under free b f = finished_grows [] b
    parts_grow part part' w h (suc count) i under free b f =
        room_grows (under + 5) (under + 5) free _ _ b (λ n. n) (λ n. n) (λ n.
        after_grows sizes 0 _ b _ _ _ _ (w i (free - (under + 5)) b)
        (moved (λ m. part' i m (b + k)) _ free (under + 5) n (h i (free - (under + 5)) b (omega arith))) (λ vs l _.
        after_grows no_bytes 0 0 l _ _ _ _ (parts_bounded part w count (next_index i) (under + size (first vs)) free l)
        (parts_grow part part' w h count (next_index i) (under + size (first vs)) free l f) (λ us l₁ _. finished_grows (first vs ∷ us) l₁)))

    range_grows : (part part' : Number → (free budget : ℕ) → Outcome (List Value))
        → ((i : Number) (free l : ℕ) → Within sizes 0 free l (part i free l))
        → ((i : Number) (free l : ℕ) → free ≤ top → Grows j k (part i free l) (part' i (free + j) (l + k)))
        → (made made' : Number → List Value → Value) → ((low : Number) (vs : List Value) → sizes vs ≤ top → made low vs ≡ made' low vs)
        → (low high : Integer) (free b : ℕ) → free ≤ top
        → Grows j k (range_parts part made low high free b) (range_parts part' made' low high (free + j) (b + k))
    unfolding range_parts
    range_grows part part' w h made made' agree (integers.Proper low) (integers.Proper high) free b f =
        after_grows no_bytes 0 0 b _ _ _ _ (parts_bounded part w (span low high) low 0 free b) (parts_grow part part' w h (span low high) low 0 free b f) (λ vs l _.
        seen_grows (sizes vs) free (made low vs) (made' low vs) l (λ n. agree low vs (omega arith)))
    range_grows part part' w h made made' agree (integers.Proper low) (integers.Error g) free b f = lay_grows _ free _ b
    range_grows part part' w h made made' agree (integers.Error g) high free b f = lay_grows _ free _ b

    -- ── Expressions ──
    -- The two ways to merge agree on what fits the room.
    module _ (merge merge' : Merging) (agree : (left : ℕ) (m : Merge) (low : Number) (vs : List Value) → sizes vs ≤ top → merge left m low vs ≡ merge' (left + k) m low vs) where
      -- What is asked of a function and its fellow.
      pub record Fellows (m m' : Meaning) : Type 0 where
        pub bounded : Bounded m
        pub growing : (us : List Value) (free b : ℕ) → free ≤ top → Grows j k (m us free b) (m' us (free + j) (b + k))

      module _ (counts : List ℕ) (callees callees' : List Meaning) (calls : (f : ℕ) → Fellows (get_or callees f no_function) (get_or callees' f no_function)) where
        now_within : (e : Expr) (names : List Value) (free b : ℕ) → Within sizes 1 free b (eval merge counts callees e names free b)
        now_within = within merge counts callees (λ f. (calls f).bounded)

        turn_within : (n : ℕ) (end : LoopEnd) (names vs : List Value) (free b : ℕ)
            → Within turn_bytes 0 free b (eval_end merge counts callees n end (names ++ vs) (free - sizes vs) b)
        turn_within n end names vs free b =
            within_more turn_bytes 0 free (sizes vs) b _ (weak turn_bytes _ b _ (end_within merge counts callees (λ f. (calls f).bounded) n end _ _ b))

        laid_within : (under free : ℕ) (v : Value) (l : ℕ) → Within size 0 free l (lay (under + size v) free v l)
        laid_within under free v l = lay_within size (under + size v) free free v l (λ h. omega arith)

        -- an expression above the values of another
        above : (e : Expr) (names : List Value) (free : ℕ) (us : List Value) (l : ℕ) → sizes us ≤ free
            → Grows j k (eval merge counts callees e names (free - sizes us) l) (eval merge' counts callees' e names (free - sizes us + j) (l + k))
            → Grows j k (eval merge counts callees e names (free - sizes us) l) (eval merge' counts callees' e names (free + j - sizes us) (l + k))
        above e names free us l f g = moved (λ m. eval merge' counts callees' e names m (l + k)) _ free (sizes us) f g

        undefs_grow : (n free l : ℕ)
            → Grows j k (after (lay_undefs n free l) (λ vs l₁. finished (ended vs) l₁)) (after (lay_undefs n (free + j) (l + k)) (λ vs l₁. finished (ended vs) l₁))
        undefs_grow n free l =
            after_grows no_bytes 0 0 l _ _ _ _ (lay_within no_bytes _ free 0 _ l (λ _. omega arith)) (lay_grows _ free _ l) (λ vs l₁ _.
            finished_grows _ l₁)

        mutual
          unfolding eval

          grows : (e : Expr) (names : List Value) (free b : ℕ) → free ≤ top
              → Grows j k (eval merge counts callees e names free b) (eval merge' counts callees' e names (free + j) (b + k))
          grows (Expr.list es) names free b h = step_grows b _ _ (λ l. members_grow es names free l h)
          grows (Expr.integer n) names free b h = step_grows b _ _ (λ l. lay_grows _ free _ l)
          grows (Expr.boolean x) names free b h = step_grows b _ _ (λ l. lay_grows _ free _ l)
          grows (Expr.error f t) names free b h = step_grows b _ _ (λ l. lay_grows _ free _ l)
          grows (Expr.name n) names free b h = step_grows b _ _ (λ l. lay_grows _ free _ l)
          grows (Expr.unary op e) names free b h =
              step_grows b _ _ (λ l. after_grows sizes 1 free l _ _ _ _ (now_within e names free l) (grows e names free l h) (λ us l₁ f.
              lay_grows _ free _ l₁))
          grows (Expr.binary op d e) names free b h =
              step_grows b _ _ (λ l. after_grows sizes 1 free l _ _ _ _ (now_within d names free l) (grows d names free l h) (λ us l₁ f.
              after_grows sizes 1 _ l₁ _ _ _ _ (now_within e names _ l₁) (above e names free us l₁ f (grows e names (free - sizes us) l₁ (omega arith))) (λ vs l₂ f₁. lay_grows _ free _ l₂)))
          grows (Expr.if test taken other) names free b h =
              step_grows b _ _ (λ l. after_grows sizes 1 free l _ _ _ _ (now_within test names free l) (grows test names free l h) (λ us l₁ f.
              branch_grows _ _ _ _ _ _ _ l₁ (grows taken names free l₁ h) (grows other names free l₁ h) (lay_grows _ free _ l₁)))
          grows (Expr.let_in definition body) names free b h =
              step_grows b _ _ (λ l.
              after_grows sizes 1 free l _ _ _ _ (now_within definition names free l) (grows definition names free l h) (λ us l₁ f.
              above body (names ++ us) free us l₁ f (grows body (names ++ us) (free - sizes us) l₁ (omega arith))))
          grows (Expr.tagcase test arms) names free b h =
              step_grows b _ _ (λ l. after_grows sizes 1 free l _ _ _ _ (now_within test names free l) (grows test names free l h) (λ us l₁ f.
              tag_grows _ _ _ _ _ l₁
              (λ tag v. after_grows size 0 free l₁ _ _ _ _ (laid_within (sizes us) free v l₁) (lay_grows _ free v l₁) (λ w l₂ f₁.
              moved (λ m.
              eval_arm merge' counts callees' arms tag (names ++ single w) m (l₂ + k)) _ free (size w) f₁ (arm_grows arms tag _ _ l₂ (omega arith))))
              (lay_grows _ free _ l₁)))
          grows (Expr.for uses initial end) names free b h =
              step_grows b _ _ (λ l. after_grows sizes 1 free l _ _ _ _ (now_within initial names free l) (grows initial names free l h) (λ us l₁ f.
              loop_grows free _ _ (λ vs l₂. turn_within (length uses) end names vs free l₂)
              (λ vs l₂ f₁. moved (λ m.
              eval_end merge' counts callees' (length uses) end (names ++ vs) m (l₂ + k)) _ free (sizes vs) f₁ (end_grows (length uses) end _ _ l₂ (omega arith))) l₁ us l₁ f))
          grows (Expr.forall m low high part) names free b h =
              step_grows b _ _ (λ l. after_grows sizes 1 free l _ _ _ _ (now_within low names free l) (grows low names free l h) (λ us l₁ f.
              after_grows sizes 1 _ l₁ _ _ _ _ (now_within high names _ l₁) (above high names free us l₁ f (grows high names (free - sizes us) l₁ (omega arith))) (λ vs l₂ f₁.
              range_grows _ _ (λ i free₁ l₃. weak sizes _ l₃ _ (now_within part _ free₁ l₃)) (λ i free₁ l₃ h₁.
              grows part _ free₁ l₃ h₁) _ _ (agree l m) _ _ free l₂ h)))
          grows (Expr.call g argument) names free b h =
              step_grows b _ _ (λ l. after_grows sizes 1 free l _ _ _ _ (now_within argument names free l) (grows argument names free l h) (λ us l₁ f.
              moved (λ m. get_or callees' g no_function us m (l₁ + k)) _ free (sizes us) f ((calls g).growing us _ l₁ (omega arith))))
          grows (Expr.record_of t e) names free b h =
              step_grows b _ _ (λ l. after_grows sizes 1 free l _ _ _ _ (now_within e names free l) (grows e names free l h) (λ us l₁ f.
              lay_grows _ free _ l₁))
          grows (Expr.field n e) names free b h =
              step_grows b _ _ (λ l. after_grows sizes 1 free l _ _ _ _ (now_within e names free l) (grows e names free l h) (λ us l₁ f.
              lay_grows _ free _ l₁))
          grows (Expr.union t tag e) names free b h =
              step_grows b _ _ (λ l. after_grows sizes 1 free l _ _ _ _ (now_within e names free l) (grows e names free l h) (λ us l₁ f.
              lay_grows _ free _ l₁))
          grows (Expr.array t low es) names free b h =
              step_grows b _ _ (λ l. after_grows sizes 1 free l _ _ _ _ (now_within low names free l) (grows low names free l h) (λ us l₁ f.
              after_grows sizes 1 _ l₁ _ _ _ _ (now_within es names _ l₁) (above es names free us l₁ f (grows es names (free - sizes us) l₁ (omega arith))) (λ vs l₂ f₁. lay_grows _ free _ l₂)))
          grows (Expr.element a i) names free b h =
              step_grows b _ _ (λ l. after_grows sizes 1 free l _ _ _ _ (now_within a names free l) (grows a names free l h) (λ us l₁ f.
              after_grows sizes 1 _ l₁ _ _ _ _ (now_within i names _ l₁) (above i names free us l₁ f (grows i names (free - sizes us) l₁ (omega arith))) (λ vs l₂ f₁. lay_grows _ free _ l₂)))

          members_grow : (es : Exprs) (names : List Value) (free b : ℕ) → free ≤ top
              → Grows j k (eval_members merge counts callees es names free b) (eval_members merge' counts callees' es names (free + j) (b + k))
          members_grow Exprs.none names free b h = finished_grows _ b
          members_grow (Exprs.◌then◌ e es) names free b h =
              after_grows sizes 1 free b _ _ _ _ (now_within e names free b) (grows e names free b h) (λ us l f.
              after_grows sizes 0 _ l _ _ _ _ (members_within merge counts callees (λ g. (calls g).bounded) es names (free - sizes us) l)
              (moved (λ m.
              eval_members merge' counts callees' es names m (l + k)) _ free (sizes us) f (members_grow es names _ l (omega arith))) (λ vs l₁ _.
              finished_grows _ l₁))

          arm_grows : (es : Exprs) (tag : ℕ) (names : List Value) (free b : ℕ) → free ≤ top
              → Grows j k (eval_arm merge counts callees es tag names free b) (eval_arm merge' counts callees' es tag names (free + j) (b + k))
          arm_grows Exprs.none tag names free b h = spent_grows _
          arm_grows (Exprs.◌then◌ e es) zero names free b h = grows e names free b h
          arm_grows (Exprs.◌then◌ e es) (suc tag) names free b h = arm_grows es tag names free b h

          end_grows : (n : ℕ) (e : LoopEnd) (names : List Value) (free b : ℕ) → free ≤ top
              → Grows j k (eval_end merge counts callees n e names free b) (eval_end merge' counts callees' n e names (free + j) (b + k))
          end_grows n (LoopEnd.iter e) names free b h =
              step_grows b _ _ (λ l. after_grows sizes 1 free l _ _ _ _ (now_within e names free l) (grows e names free l h) (λ us l₁ f.
              finished_grows _ l₁))
          end_grows n (LoopEnd.done e) names free b h =
              after_grows sizes 1 free b _ _ _ _ (now_within e names free b) (grows e names free b h) (λ us l f. finished_grows _ l)
          end_grows n (LoopEnd.if_end test taken other) names free b h =
              step_grows b _ _ (λ l. after_grows sizes 1 free l _ _ _ _ (now_within test names free l) (grows test names free l h) (λ us l₁ f.
              branch_grows _ _ _ _ _ _ _ l₁ (end_grows n taken names free l₁ h) (end_grows n other names free l₁ h) (undefs_grow n free l₁)))
          end_grows n (LoopEnd.let_end definition body) names free b h =
              step_grows b _ _ (λ l.
              after_grows sizes 1 free l _ _ _ _ (now_within definition names free l) (grows definition names free l h) (λ us l₁ f.
              moved (λ m.
              eval_end merge' counts callees' n body (names ++ us) m (l₁ + k)) _ free (sizes us) f (end_grows n body (names ++ us) _ l₁ (omega arith))))
          end_grows n (LoopEnd.tagcase_end test arms) names free b h =
              step_grows b _ _ (λ l. after_grows sizes 1 free l _ _ _ _ (now_within test names free l) (grows test names free l h) (λ us l₁ f.
              tag_grows _ _ _ _ _ l₁
              (λ tag v. after_grows size 0 free l₁ _ _ _ _ (laid_within (sizes us) free v l₁) (lay_grows _ free v l₁) (λ w l₂ f₁.
              moved (λ m.
              eval_arm_end merge' counts callees' n arms tag (names ++ single w) m (l₂ + k)) _ free (size w) f₁ (arm_end_grows n arms tag _ _ l₂ (omega arith))))
              (undefs_grow n free l₁)))

          arm_end_grows : (n : ℕ) (es : LoopEnds) (tag : ℕ) (names : List Value) (free b : ℕ) → free ≤ top
              → Grows j k (eval_arm_end merge counts callees n es tag names free b) (eval_arm_end merge' counts callees' n es tag names (free + j) (b + k))
          arm_end_grows n LoopEnds.no_ends tag names free b h = spent_grows _
          arm_end_grows n (LoopEnds.◌or◌ e es) zero names free b h = end_grows n e names free b h
          arm_end_grows n (LoopEnds.◌or◌ e es) (suc tag) names free b h = arm_end_grows n es tag names free b h

      -- ── Functions ──
      no_fellows : Fellows no_function no_function
      no_fellows = record { bounded = no_function_bounded; growing = λ us free b h. spent_grows _ }

      body_fellows : (counts : List ℕ) (ms ns : List Meaning) → Pairs Fellows ms ns → (f : Function)
          → Fellows (λ us free budget. eval merge counts ms f.body us free budget) (λ us free budget. eval merge' counts ns f.body us free budget)
      body_fellows counts ms ns h f =
          let calls = pair_at Fellows no_fellows ms ns h in
          record {
            bounded = λ us free b. within merge counts ms (λ g. (calls g).bounded) f.body us free b;
            growing = λ us free b t. grows counts ms ns calls f.body us free b t;
          }

      pub run_grows : (functions : List Function) (f : ℕ) (arguments : List Value) (free b : ℕ) → free ≤ top
          → Grows j k (run merge functions f arguments free b) (run merge' functions f arguments (free + j) (b + k))
      unfolding run
      run_grows functions f arguments free b h =
          after_grows sizes 0 free b _ _ _ _ (lay_within sizes (sizes arguments) free free arguments b (λ n.
          n)) (lay_grows _ free arguments b) (λ us l n.
          moved (λ m. get_or (meanings merge' functions) f no_function us m (l + k)) _ free (sizes us) n
          ((pair_at Fellows no_fellows _ _ (every_meaning Fellows merge merge' body_fellows functions) f).growing us (free - sizes us) l (omega arith)))
