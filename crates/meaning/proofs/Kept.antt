-- Runs keep types: a typed expression's values are as many as its types, and each is of its own.
use Rattle.std.proofs.Common.{◌≡◌, ℕ, zero, suc, ◌+◌, ◌-◌, ◌≤◌, true, List, [], ◌∷◌, ◌++◌, length, get_or, Some, sym, refl, ap, subst, append_assoc, append-nil, arith}
use Rattle.std.specs.List.{slice_get}
use Rattle.numbers.specs.declared.number.Number.{Number}
use Rattle.numbers.specs.declared.integer.Integer.{Integer}
use Rattle.numbers.specs.declared.integer.Integer.TheVariants as integers
use Rattle.numbers.specs.declared.boolean.Boolean.TheVariants as booleans
use Rattle.merging.specs.Bundles.{Merges}
use Rattle.values.specs.declared.row.Row.{Row}
use Rattle.values.specs.Trees.{Tree, Each, Of, OneOf}
use Rattle.values.specs.Rows.{trees_of, sound, table, tree_at}
use Rattle.values.specs.Values.{Value, row, size, sizes}
use Rattle.language.specs.Syntax.{Expr, Exprs, LoopEnd, LoopEnds, Function}
use Rattle.language.specs.Sorts.{tags_of}
use Rattle.language.specs.Typing.{Signature, signature, signatures, Context, context, result_counts, Types, MembersTypes, ArmsTypes, EndTypes, EndsTypes, FunctionsFit}
use Rattle.meaning.specs.Operations.{undef}
use Rattle.meaning.specs.Outcomes.{Outcome, Keeps, after, finished}
use Rattle.meaning.specs.Evaluation.{Meaning, Turn, again, ended, turned, no_function, by_tag, first, single, undefs, lay_one, lay_undefs, loop, next_index, span, parts_from, range_parts, eval, eval_members, eval_arm, eval_end, eval_arm_end, meanings_from, meanings, run}
use Rattle.meaning.specs.Runs.{merged}
use Rattle.meaning.specs.Laws.{longest, AllOf, TypesAreKept}
use Rattle.meaning.proofs.Keeping.{finished_keeps, spent_keeps, step_keeps, after_keeps, room_keeps, lay_keeps, branch_keeps}
use Rattle.meaning.proofs.Numbered.{none_some, same_some, rows_sound, tags_tree, some_tags, arity_is, arity_first_is}
use Rattle.meaning.proofs.Typed.{Has, undef_any, integer_has, boolean_has, error_has, none_all, one_all, all_append, all_at, all_first, some_undefs, all_each, unary_has, binary_has, record_has, field_has, union_has, element_has, array_has, merge_has}

module _ (rows : List Row) where
  -- ── What is laid ──
  one_keeps : (ts : List ℕ) (t : ℕ) → ts ≡ t ∷ [] → (under free : ℕ) (v : Value) (l : ℕ) → (under + size v ≤ free → Has rows t v)
      → Keeps (λ vs. AllOf rows vs ts) (lay_one under free v l)
  one_keeps ts t e under free v l h =
      lay_keeps (λ vs. AllOf rows vs ts) (under + size v) free (single v) l (λ n. subst (AllOf rows (single v)) (sym e) (one_all rows v t (h n)))

  undefs_keep : (n : ℕ) (ts : List ℕ) → length ts ≡ n → (free l : ℕ) → Keeps (λ vs. AllOf rows vs ts) (lay_undefs n free l)
  undefs_keep n ts e free l = lay_keeps (λ vs. AllOf rows vs ts) (n + n) free (undefs n) l (λ _. some_undefs rows n ts e)

  as_types : (ts rs : List ℕ) → ts ≡ rs → (o : Outcome (List Value)) → Keeps (λ vs. AllOf rows vs rs) o → Keeps (λ vs. AllOf rows vs ts) o
  as_types ts rs e o h = subst (λ us. Keeps (λ vs. AllOf rows vs us) o) (sym e) h

  -- ── Tests, loops and parts ──
  tag_keeps : {A : Type 0} (P : A → Type 0) (ok : sound rows ≡ true) (t : ℕ) (us : List ℕ) → tags_of rows t ≡ Some us
      → (v : Value) (arm : ℕ → Value → ℕ → Outcome A) (wrong : ℕ → Outcome A) (l : ℕ)
      → Has rows t v → ((tag : ℕ) (w : Value) → OneOf (trees_of (table rows) us) tag w → Keeps P (arm tag w l)) → Keeps P (wrong l)
      → Keeps P (by_tag v arm wrong l)
  unfolding by_tag Of
  tag_keeps P ok t us e v arm wrong l h f k = by v (subst (λ s. Of s v) (tags_tree rows ok t us e) h)
    where
      by : (v : Value) → Of (Tree.union (trees_of (table rows) us)) v → Keeps P (by_tag v arm wrong l)
      by (Value.boolean b) h₁ = k
      by (Value.integer n) h₁ = k
      by (Value.error g) h₁ = k
      by (Value.array low vs) h₁ = k
      by (Value.record_of vs) h₁ = k
      by (Value.union tag w) h₁ = f tag w h₁

  -- The constituent of the first tag, and of a later one.
  first_of : (cs : List ℕ) (t : ℕ) (ts : List ℕ) → cs ≡ t ∷ ts → (v : Value) → OneOf (trees_of (table rows) cs) zero v → AllOf rows (single v) (t ∷ [])
  unfolding Of
  first_of cs t ts e v h = one_all rows v t (subst (λ us. OneOf (trees_of (table rows) us) zero v) e h)

  later_of : (cs : List ℕ) (t : ℕ) (ts : List ℕ) → cs ≡ t ∷ ts → (tag : ℕ) (v : Value)
      → OneOf (trees_of (table rows) cs) (suc tag) v → OneOf (trees_of (table rows) ts) tag v
  unfolding Of
  later_of cs t ts e tag v h = subst (λ us. OneOf (trees_of (table rows) us) (suc tag) v) e h

  -- The values for another turn, or the loop's results.
  unfoldable TurnOf : (us ts : List ℕ) → Turn → Type 0
  TurnOf us ts (again vs) = AllOf rows vs us
  TurnOf us ts (ended vs) = AllOf rows vs ts

  again_of : (us ts : List ℕ) (vs : List Value) → AllOf rows vs us → TurnOf us ts (again vs)
  unfolding TurnOf
  again_of us ts vs h = h

  ended_of : (us ts : List ℕ) (vs : List Value) → AllOf rows vs ts → TurnOf us ts (ended vs)
  unfolding TurnOf
  ended_of us ts vs h = h

  ended_keeps : (us ts : List ℕ) (o : Outcome (List Value)) → Keeps (λ vs. AllOf rows vs ts) o
      → Keeps (TurnOf us ts) (after o (λ vs l. finished (ended vs) l))
  ended_keeps us ts o h =
      after_keeps (λ vs. AllOf rows vs ts) (TurnOf us ts) o _ h (λ vs l k. finished_keeps (TurnOf us ts) (ended vs) l (ended_of us ts vs k))

  turned_keeps : (us ts : List ℕ) (next : List Value → ℕ → Outcome (List Value))
      → ((vs : List Value) (l : ℕ) → AllOf rows vs us → Keeps (λ rs. AllOf rows rs ts) (next vs l))
      → (t : Turn) (l : ℕ) → TurnOf us ts t → Keeps (λ rs. AllOf rows rs ts) (turned next t l)
  unfolding turned TurnOf
  turned_keeps us ts next f (again vs) l h = f vs l h
  turned_keeps us ts next f (ended vs) l h = finished_keeps (λ rs. AllOf rows rs ts) vs l h

  loop_keeps : (us ts : List ℕ) (turn : List Value → ℕ → Outcome Turn)
      → ((vs : List Value) (l : ℕ) → AllOf rows vs us → Keeps (TurnOf us ts) (turn vs l))
      → (fuel : ℕ) (vs : List Value) (b : ℕ) → AllOf rows vs us → Keeps (λ rs. AllOf rows rs ts) (loop turn fuel vs b)
  unfolding loop
  loop_keeps us ts turn h zero vs b k = spent_keeps _
  loop_keeps us ts turn h (suc fuel) vs b k =
      after_keeps (TurnOf us ts) (λ rs. AllOf rows rs ts) (turn vs b) _ (h vs b k) (turned_keeps us ts _ (λ ws l k₁.
      loop_keeps us ts turn h fuel ws l k₁))

  -- As many parts as there are indices, all of one type.
  pub record Parts (u count : ℕ) (vs : List Value) : Type 0 where
    pub typed : Each (Has rows u) (row vs)
    pub long : length vs ≡ count

  parts_keep : (u : ℕ) (part : Number → (free budget : ℕ) → Outcome (List Value))
      → ((i : Number) (free l : ℕ) → free ≤ longest → Keeps (λ vs. AllOf rows vs (u ∷ [])) (part i free l))
      → (count : ℕ) (i : Number) (under free b : ℕ) → free ≤ longest → Keeps (Parts u count) (parts_from part count i under free b)
  unfolding parts_from
  parts_keep u part h zero i under free b f = finished_keeps (Parts u zero) [] b (record { typed = tt; long = refl })
  parts_keep u part h (suc count) i under free b f =
      room_keeps (Parts u (suc count)) (under + 5) free _ b (λ _.
      after_keeps (λ vs.
      AllOf rows vs (u ∷ [])) (Parts u (suc count)) (part i (free - (under + 5)) b) _ (h i (free - (under + 5)) b (omega arith)) (λ vs l k.
      after_keeps (Parts u count) (Parts u (suc count)) (parts_from part count (next_index i) (under + size (first vs)) free l) _
      (parts_keep u part h count (next_index i) (under + size (first vs)) free l f) (λ us l₁ k₁.
      finished_keeps (Parts u (suc count)) (first vs ∷ us) l₁ (record {
        typed =
            (all_first rows vs u k, k₁.typed);
        long = omega (arith, k₁.long);
      }))))

  range_keeps : (u r : ℕ) (ts : List ℕ) → ts ≡ r ∷ [] → (part : Number → (free budget : ℕ) → Outcome (List Value))
      → ((i : Number) (free l : ℕ) → free ≤ longest → Keeps (λ vs. AllOf rows vs (u ∷ [])) (part i free l))
      → (made : Number → List Value → Value)
      → ((low high : Number) (vs : List Value) → Each (Has rows u) (row vs) → length vs ≡ span low high → sizes vs ≤ longest → Has rows r (made low vs))
      → (low high : Integer) (free b : ℕ) → free ≤ longest → Keeps (λ vs. AllOf rows vs ts) (range_parts part made low high free b)
  unfolding range_parts
  range_keeps u r ts e part h made k (integers.Proper low) (integers.Proper high) free b f =
      after_keeps (Parts u (span low high)) (λ vs.
      AllOf rows vs ts) (parts_from part (span low high) low 0 free b) _ (parts_keep u part h (span low high) low 0 free b f) (λ vs l p.
      one_keeps ts r e (sizes vs) free (made low vs) l (λ n. k low high vs p.typed p.long (omega arith)))
  range_keeps u r ts e part h made k (integers.Proper low) (integers.Error g) free b f =
      one_keeps ts r e 0 free undef b (λ _. undef_any (tree_at rows r))
  range_keeps u r ts e part h made k (integers.Error g) high free b f = one_keeps ts r e 0 free undef b (λ _. undef_any (tree_at rows r))

-- ── Expressions ──

-- A function's meaning keeps its signature.
abbrev MeaningOf : List Row → Signature → Meaning → Type 0
MeaningOf rows s m =
    (us : List Value) → AllOf rows us s.parameters → (free b : ℕ) → free ≤ longest → Keeps (λ vs. AllOf rows vs s.results) (m us free b)

abbrev CallsOf : List Row → List Signature → List Meaning → Type 0
CallsOf rows ss ms = (f : ℕ) (s : Signature) → slice_get ss f ≡ Some s → MeaningOf rows s (get_or ms f no_function)

module _ (C : Context) (ok : sound C.rows ≡ true) (merges : Merges) (callees : List Meaning) (calls : CallsOf C.rows C.callees callees) where
  -- all the values of an expression
  abbrev All : List ℕ → List Value → Type 0
  All ts vs = AllOf C.rows vs ts

  abbrev counts : List ℕ
  counts = result_counts C.callees

  bound : (names : List Value) (Γ : List ℕ) (us : List Value) (ts : List ℕ) → All Γ names → All ts us → All (Γ ++ ts) (names ++ us)
  bound names Γ us ts n k = all_append C.rows names us Γ ts n k

  mutual
    unfolding eval Types

    keeps : (e : Expr) (Γ ts : List ℕ) → Types C e Γ ts → (names : List Value) → All Γ names → (free b : ℕ) → free ≤ longest
        → Keeps (All ts) (eval (merged merges) counts callees e names free b)
    keeps (Expr.list es) Γ ts h names n free b f = step_keeps _ b _ (λ l. keeps_members es Γ ts h.2 names n free l f)
    keeps (Expr.integer m) Γ ts h names n free b f =
        step_keeps _ b _ (λ l. one_keeps C.rows ts 1 h 0 free _ l (λ _. integer_has C.rows (integers.Proper m)))
    keeps (Expr.boolean x) Γ ts h names n free b f =
        step_keeps _ b _ (λ l. one_keeps C.rows ts 0 h 0 free _ l (λ _. boolean_has C.rows (booleans.Proper x)))
    keeps (Expr.error g t) Γ ts h names n free b f =
        step_keeps _ b _ (λ l. one_keeps C.rows ts t h.2 0 free _ l (λ _. error_has C.rows t g h.1))
    keeps (Expr.name m) Γ ts h names n free b f =
        step_keeps _ b _ (λ l. one_keeps C.rows ts h.0 h.2 0 free _ l (λ _. all_at C.rows names Γ m h.0 n h.1))
    keeps (Expr.unary op e) Γ ts h names n free b f =
        step_keeps _ b _ (λ l. after_keeps (All (h.0 ∷ [])) _ _ _ (keeps e Γ _ h.1 names n free l f) (λ us l₁ k.
        one_keeps C.rows ts _ h.3 _ free _ l₁ (λ _. unary_has C.rows op (first us))))
    keeps (Expr.binary op d e) Γ ts h names n free b f =
        step_keeps _ b _ (λ l. after_keeps (All _) _ _ _ (keeps d Γ _ h.0 names n free l f) (λ us l₁ k.
        after_keeps (All _) _ _ _ (keeps e Γ _ h.1 names n _ l₁ (omega arith)) (λ vs l₂ k₁.
        one_keeps C.rows ts _ h.2 _ free _ l₂ (λ _. binary_has C.rows op (first us) (first vs)))))
    keeps (Expr.if test taken other) Γ ts h names n free b f =
        step_keeps _ b _ (λ l. after_keeps (All (0 ∷ [])) _ _ _ (keeps test Γ _ h.0 names n free l f) (λ us l₁ k.
        branch_keeps _ _ _ _ _ l₁ (keeps taken Γ ts h.1 names n free l₁ f) (keeps other Γ ts h.2 names n free l₁ f) (undefs_keep C.rows _ ts (arity_is C taken Γ ts h.1) free l₁)))
    keeps (Expr.let_in definition body) Γ ts h names n free b f =
        step_keeps _ b _ (λ l. after_keeps (All h.0) _ _ _ (keeps definition Γ h.0 h.1 names n free l f) (λ us l₁ k.
        keeps body (Γ ++ h.0) ts h.3 (names ++ us) (bound names Γ us h.0 n k) _ l₁ (omega arith)))
    keeps (Expr.tagcase test arms) Γ ts h names n free b f =
        step_keeps _ b _ (λ l. after_keeps (All (h.0 ∷ [])) _ _ _ (keeps test Γ _ h.2 names n free l f) (λ us l₁ k.
        tag_keeps C.rows _ ok h.0 h.1 h.3 (first us) _ _ l₁ (all_first C.rows us h.0 k)
        (λ tag v o. after_keeps (OneOf (trees_of (table C.rows) h.1) tag) _ _ _ (lay_keeps _ _ free v l₁ (λ _. o)) (λ w l₂ o₁.
        keeps_arm arms h.1 Γ ts h.5 tag w o₁ names n _ l₂ (omega arith)))
        (undefs_keep C.rows _ ts (arity_first_is C arms h.1 Γ ts (some_tags C.rows h.0 h.1 h.3) h.5) free l₁)))
    keeps (Expr.for uses initial end) Γ ts h names n free b f =
        let us₀ = h.2.0 in
        step_keeps _ b _ (λ l. after_keeps (All us₀) _ _ _ (keeps initial Γ us₀ h.2.1 names n free l f) (λ us l₁ k.
        as_types C.rows ts uses h.3 _
        (loop_keeps C.rows us₀ uses _ (λ vs l₂ k₁.
        keeps_end end us₀ (Γ ++ us₀) uses h.2.3 (names ++ vs) (bound names Γ vs us₀ n k₁) _ l₂ (omega arith)) l₁ us l₁ k)))
    keeps (Expr.forall m low high part) Γ ts h names n free b f =
        step_keeps _ b _ (λ l. after_keeps (All (1 ∷ [])) _ _ _ (keeps low Γ _ h.0 names n free l f) (λ us l₁ k.
        after_keeps (All (1 ∷ [])) _ _ _ (keeps high Γ _ h.1 names n _ l₁ (omega arith)) (λ vs l₂ k₁.
        range_keeps C.rows h.3.0 _ ts h.4 _
        (λ i free₁ l₃ f₁.
        keeps part (Γ ++ 1 ∷ []) _ h.3.1 (names ++ single (Value.integer i)) (bound names Γ _ (1 ∷ []) n (one_all C.rows (Value.integer i) 1 (integer_has C.rows (integers.Proper i)))) free₁ l₃ f₁)
        _ (merge_has C.rows ok merges m h.3.0 h.3.2) _ _ free l₂ f)))
    keeps (Expr.call g argument) Γ ts h names n free b f =
        step_keeps _ b _ (λ l. after_keeps (All h.0.parameters) _ _ _ (keeps argument Γ _ h.2 names n free l f) (λ us l₁ k.
        as_types C.rows ts h.0.results h.3 _ (calls g h.0 h.1 us k _ l₁ (omega arith))))
    keeps (Expr.record_of t e) Γ ts h names n free b f =
        step_keeps _ b _ (λ l. after_keeps (All h.0) _ _ _ (keeps e Γ h.0 h.2 names n free l f) (λ us l₁ k.
        one_keeps C.rows ts t h.3 _ free _ l₁ (λ _. record_has C.rows ok t h.0 us h.1 k)))
    keeps (Expr.field m e) Γ ts h names n free b f =
        step_keeps _ b _ (λ l. after_keeps (All (h.0 ∷ [])) _ _ _ (keeps e Γ _ h.3 names n free l f) (λ us l₁ k.
        one_keeps C.rows ts h.1 h.6 _ free _ l₁ (λ _.
        field_has C.rows ok h.0 h.1 h.2 m (first us) h.4 h.5 (all_first C.rows us h.0 k))))
    keeps (Expr.union t tag e) Γ ts h names n free b f =
        step_keeps _ b _ (λ l. after_keeps (All (h.1 ∷ [])) _ _ _ (keeps e Γ _ h.4 names n free l f) (λ us l₁ k.
        one_keeps C.rows ts t h.5 _ free _ l₁ (λ _.
        union_has C.rows ok t tag h.1 h.0 (first us) h.2 h.3 (all_first C.rows us h.1 k))))
    keeps (Expr.array t low es) Γ ts h names n free b f =
        step_keeps _ b _ (λ l. after_keeps (All (1 ∷ [])) _ _ _ (keeps low Γ _ h.3 names n free l f) (λ us l₁ k.
        after_keeps (All h.1) _ _ _ (keeps es Γ h.1 h.4 names n _ l₁ (omega arith)) (λ vs l₂ k₁.
        one_keeps C.rows ts t h.6 _ free _ l₂ (λ m.
        array_has C.rows ok t h.0 _ vs h.2 (all_each C.rows vs h.1 h.0 k₁ h.5) (omega arith)))))
    keeps (Expr.element a i) Γ ts h names n free b f =
        step_keeps _ b _ (λ l. after_keeps (All (h.0 ∷ [])) _ _ _ (keeps a Γ _ h.2 names n free l f) (λ us l₁ k.
        after_keeps (All (1 ∷ [])) _ _ _ (keeps i Γ _ h.4 names n _ l₁ (omega arith)) (λ vs l₂ k₁.
        one_keeps C.rows ts h.1 h.5 _ free _ l₂ (λ _.
        element_has C.rows ok h.0 h.1 (first us) _ h.3 (all_first C.rows us h.0 k)))))

    keeps_members : (es : Exprs) (Γ ts : List ℕ) → MembersTypes C es Γ ts → (names : List Value) → All Γ names → (free b : ℕ) → free ≤ longest
        → Keeps (All ts) (eval_members (merged merges) counts callees es names free b)
    keeps_members Exprs.none Γ ts h names n free b f = finished_keeps _ [] b (subst (λ us. All us []) (sym h) (none_all C.rows))
    keeps_members (Exprs.◌then◌ e es) Γ ts h names n free b f =
        after_keeps (All (h.0 ∷ [])) _ _ _ (keeps e Γ _ h.2 names n free b f) (λ us l k.
        after_keeps (All h.1) _ _ _ (keeps_members es Γ h.1 h.3 names n _ l (omega arith)) (λ vs l₁ k₁.
        finished_keeps _ (us ++ vs) l₁ (subst (λ rs. All rs (us ++ vs)) (sym h.4) (all_append C.rows us vs (h.0 ∷ []) h.1 k k₁))))

    keeps_arm : (es : Exprs) (cs Γ ts : List ℕ) → ArmsTypes C es cs Γ ts → (tag : ℕ) (w : Value) → OneOf (trees_of (table C.rows) cs) tag w
        → (names : List Value) → All Γ names → (free b : ℕ) → free ≤ longest
        → Keeps (All ts) (eval_arm (merged merges) counts callees es tag (names ++ single w) free b)
    keeps_arm Exprs.none cs Γ ts h tag w o names n free b f = spent_keeps _
    keeps_arm (Exprs.◌then◌ e es) cs Γ ts h zero w o names n free b f =
        keeps e (Γ ++ h.0 ∷ []) ts h.3 (names ++ single w) (bound names Γ (single w) (h.0 ∷ []) n (first_of C.rows cs h.0 h.1 h.2 w o)) free b f
    keeps_arm (Exprs.◌then◌ e es) cs Γ ts h (suc tag) w o names n free b f =
        keeps_arm es h.1 Γ ts h.4 tag w (later_of C.rows cs h.0 h.1 h.2 tag w o) names n free b f

    keeps_end : (e : LoopEnd) (us Γ ts : List ℕ) → EndTypes C e us Γ ts → (names : List Value) → All Γ names → (free b : ℕ) → free ≤ longest
        → Keeps (TurnOf C.rows us ts) (eval_end (merged merges) counts callees (length ts) e names free b)
    keeps_end (LoopEnd.iter e) us Γ ts h names n free b f =
        step_keeps _ b _ (λ l. after_keeps (All us) _ _ _ (keeps e Γ us h names n free l f) (λ vs l₁ k.
        finished_keeps _ _ l₁ (again_of C.rows us ts vs k)))
    keeps_end (LoopEnd.done e) us Γ ts h names n free b f = ended_keeps C.rows us ts _ (keeps e Γ ts h.1 names n free b f)
    keeps_end (LoopEnd.if_end test taken other) us Γ ts h names n free b f =
        step_keeps _ b _ (λ l. after_keeps (All (0 ∷ [])) _ _ _ (keeps test Γ _ h.0 names n free l f) (λ vs l₁ k.
        branch_keeps _ _ _ _ _ l₁ (keeps_end taken us Γ ts h.1 names n free l₁ f) (keeps_end other us Γ ts h.2 names n free l₁ f)
        (ended_keeps C.rows us ts _ (undefs_keep C.rows (length ts) ts refl free l₁))))
    keeps_end (LoopEnd.let_end definition body) us Γ ts h names n free b f =
        step_keeps _ b _ (λ l. after_keeps (All h.0) _ _ _ (keeps definition Γ h.0 h.1 names n free l f) (λ vs l₁ k.
        keeps_end body us (Γ ++ h.0) ts h.3 (names ++ vs) (bound names Γ vs h.0 n k) _ l₁ (omega arith)))
    keeps_end (LoopEnd.tagcase_end test arms) us Γ ts h names n free b f =
        step_keeps _ b _ (λ l. after_keeps (All (h.0 ∷ [])) _ _ _ (keeps test Γ _ h.2 names n free l f) (λ vs l₁ k.
        tag_keeps C.rows _ ok h.0 h.1 h.3 (first vs) _ _ l₁ (all_first C.rows vs h.0 k)
        (λ tag v o. after_keeps (OneOf (trees_of (table C.rows) h.1) tag) _ _ _ (lay_keeps _ _ free v l₁ (λ _. o)) (λ w l₂ o₁.
        keeps_arm_end arms h.1 us Γ ts h.5 tag w o₁ names n _ l₂ (omega arith)))
        (ended_keeps C.rows us ts _ (undefs_keep C.rows (length ts) ts refl free l₁))))

    keeps_arm_end : (es : LoopEnds) (cs us Γ ts : List ℕ) → EndsTypes C es cs us Γ ts → (tag : ℕ) (w : Value)
        → OneOf (trees_of (table C.rows) cs) tag w → (names : List Value) → All Γ names → (free b : ℕ) → free ≤ longest
        → Keeps (TurnOf C.rows us ts) (eval_arm_end (merged merges) counts callees (length ts) es tag (names ++ single w) free b)
    keeps_arm_end LoopEnds.no_ends cs us Γ ts h tag w o names n free b f = spent_keeps _
    keeps_arm_end (LoopEnds.◌or◌ e es) cs us Γ ts h zero w o names n free b f =
        keeps_end e us (Γ ++ h.0 ∷ []) ts h.3 (names ++ single w) (bound names Γ (single w) (h.0 ∷ []) n (first_of C.rows cs h.0 h.1 h.2 w o)) free b f
    keeps_arm_end (LoopEnds.◌or◌ e es) cs us Γ ts h (suc tag) w o names n free b f =
        keeps_arm_end es h.1 us Γ ts h.4 tag w (later_of C.rows cs h.0 h.1 h.2 tag w o) names n free b f

-- ── Functions ──

-- each function's meaning keeps its signature
abbrev MeaningsOf : List Row → List Signature → List Meaning → Type 0
MeaningsOf rows [] [] = Unit {0}
MeaningsOf rows [] (m ∷ ms) = ⊥
MeaningsOf rows (s ∷ ss) [] = ⊥
MeaningsOf rows (s ∷ ss) (m ∷ ms) = MeaningOf rows s m × MeaningsOf rows ss ms

calls_of : (rows : List Row) (ss : List Signature) (ms : List Meaning) → MeaningsOf rows ss ms → CallsOf rows ss ms
calls_of rows [] [] h f s e = absurd (none_some s e)
calls_of rows [] (m ∷ ms) h f s e = absurd h
calls_of rows (r ∷ ss) [] h f s e = absurd h
calls_of rows (r ∷ ss) (m ∷ ms) h zero s e = subst (λ q. MeaningOf rows q m) (same_some r s e) h.0
calls_of rows (r ∷ ss) (m ∷ ms) h (suc f) s e = calls_of rows ss ms h.1 f s e

meanings_more : (rows : List Row) (ss : List Signature) (ms : List Meaning) (s : Signature) (m : Meaning) → MeaningsOf rows ss ms
    → MeaningOf rows s m → MeaningsOf rows (ss ++ s ∷ []) (ms ++ m ∷ [])
meanings_more rows [] [] s m h k = (k, tt)
meanings_more rows [] (n ∷ ms) s m h k = absurd h
meanings_more rows (r ∷ ss) [] s m h k = absurd h
meanings_more rows (r ∷ ss) (n ∷ ms) s m h k = (h.0, meanings_more rows ss ms s m h.1 k)

counts_more : (ss : List Signature) (s : Signature) → result_counts (ss ++ s ∷ []) ≡ result_counts ss ++ length s.results ∷ []
counts_more [] s = refl
counts_more (r ∷ ss) s = ap (◌∷◌ (length r.results)) (counts_more ss s)

module _ (rows : List Row) (ok : sound rows ≡ true) (merges : Merges) where
  meanings_keep : (fs : List Function) (ss : List Signature) (ms : List Meaning) → MeaningsOf rows ss ms → FunctionsFit rows ss fs
      → MeaningsOf rows (ss ++ signatures fs) (meanings_from (merged merges) (result_counts ss) ms fs)
  unfolding meanings_from FunctionsFit
  meanings_keep [] ss ms h t = subst (λ l. MeaningsOf rows l ms) (sym (append-nil ss)) h
  meanings_keep (f ∷ fs) ss ms h t =
      let m : Meaning = λ us free b. eval (merged merges) (result_counts ss) ms f.body us free b in
      let k : MeaningOf rows (signature f) m = λ us a free b n. keeps (context rows ss) ok merges ms (calls_of rows ss ms h) f.body f.parameters f.results t.0.typed us a free b n in
      subst (λ l.
      MeaningsOf rows l (meanings_from (merged merges) (result_counts ss ++ length f.results ∷ []) (ms ++ m ∷ []) fs)) (append_assoc ss (signature f ∷ []) (signatures fs))
      (subst (λ c.
      MeaningsOf rows ((ss ++ signature f ∷ []) ++ signatures fs) (meanings_from (merged merges) c (ms ++ m ∷ []) fs)) (counts_more ss (signature f))
      (meanings_keep fs (ss ++ signature f ∷ []) (ms ++ m ∷ []) (meanings_more rows ss ms (signature f) m h k) t.1))

signature_at : (fs : List Function) (n : ℕ) (f : Function) → slice_get fs n ≡ Some f → slice_get (signatures fs) n ≡ Some (signature f)
signature_at [] n f e = absurd (none_some f e)
signature_at (g ∷ fs) zero f e = ap (λ x. Some (signature x)) (same_some g f e)
signature_at (g ∷ fs) (suc n) f e = signature_at fs n f e

pub types_are_kept : TypesAreKept
unfolding run
types_are_kept merges m w n f e arguments a free b h =
    let ms = meanings_keep m.rows (rows_sound m w) merges m.functions [] [] tt w.functions_fit in
    after_keeps (λ vs. AllOf m.rows vs f.parameters) _ _ _ (lay_keeps _ _ free arguments b (λ _. a)) (λ us l k.
    calls_of m.rows (signatures m.functions) (meanings (merged merges) m.functions) ms n (signature f) (signature_at m.functions n f e) us k (free - sizes us) l (omega arith))
