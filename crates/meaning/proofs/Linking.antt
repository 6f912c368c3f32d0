-- A call of a function is its body, evaluated with all functions of the module: a body calls only those before it.
use Rattle.std.proofs.Common.{◌≡◌, ℕ, zero, suc, ◌+◌, ◌-◌, ◌<◌, true, false, List, [], ◌∷◌, ◌++◌, length, get_or, Some, sym, refl, ap, ◌∙◌, subst, append_assoc, arith}
use Rattle.std.specs.List.{slice_get}
use Rattle.std.proofs.lemmas.List.{length_push, get_or_append_left, get_or_push}
use Rattle.numbers.specs.declared.boolean.Boolean.{Boolean}
use Rattle.numbers.specs.declared.boolean.Boolean.TheVariants as booleans
use Rattle.values.specs.declared.row.Row.{Row}
use Rattle.values.specs.Values.{Value, sizes}
use Rattle.language.specs.Syntax.{Expr, Exprs, LoopEnd, LoopEnds, Function, arity, arity_first}
use Rattle.language.specs.Typing.{Signature, signature, Context, context, Types, MembersTypes, ArmsTypes, EndTypes, EndsTypes, FunctionsFit}
use Rattle.meaning.specs.Operations.{as_integer}
use Rattle.meaning.specs.Outcomes.{Outcome, step, after}
use Rattle.meaning.specs.Evaluation.{Merging, Meaning, no_function, first, branch, by_tag, lay_undefs, loop, range_parts, eval, eval_members, eval_arm, eval_end, eval_arm_end, meanings_from, meanings}
use Rattle.meaning.specs.Laws.{counts_of, CallsRunBodies}
use Rattle.meaning.proofs.Numbered.{none_some, same_some, nth_there}

-- ── One lemma for each way to put outcomes together ──

same_step : {A : Type 0} (b : ℕ) (next next' : ℕ → Outcome A) → ((l : ℕ) → next l ≡ next' l) → step b next ≡ step b next'
same_step b next next' h = λ i. step b (λ l. h l i)

same_after : {A B : Type 0} (o o' : Outcome A) (next next' : A → ℕ → Outcome B) → o ≡ o' → ((a : A) (l : ℕ) → next a l ≡ next' a l) → after o next ≡ after o' next'
same_after o o' next next' e h = λ i. after (e i) (λ a l. h a l i)

same_branch : {A : Type 0} (t : Boolean) (taken other wrong taken' other' wrong' : ℕ → Outcome A) (l : ℕ)
    → taken l ≡ taken' l → other l ≡ other' l → wrong l ≡ wrong' l → branch t taken other wrong l ≡ branch t taken' other' wrong' l
unfolding branch
same_branch (booleans.Proper true) _ _ _ _ _ _ l h₁ h₂ h₃ = h₁
same_branch (booleans.Proper false) _ _ _ _ _ _ l h₁ h₂ h₃ = h₂
same_branch (booleans.Error f) _ _ _ _ _ _ l h₁ h₂ h₃ = h₃

same_tag : {A : Type 0} (v : Value) (arm arm' : ℕ → Value → ℕ → Outcome A) (wrong wrong' : ℕ → Outcome A) (l : ℕ)
    → ((tag : ℕ) (w : Value) → arm tag w l ≡ arm' tag w l) → wrong l ≡ wrong' l → by_tag v arm wrong l ≡ by_tag v arm' wrong' l
unfolding by_tag
same_tag (Value.boolean b) arm arm' wrong wrong' l h k = k
same_tag (Value.integer n) arm arm' wrong wrong' l h k = k
same_tag (Value.error f) arm arm' wrong wrong' l h k = k
same_tag (Value.array low vs) arm arm' wrong wrong' l h k = k
same_tag (Value.record_of vs) arm arm' wrong wrong' l h k = k
same_tag (Value.union tag w) arm arm' wrong wrong' l h k = h tag w

-- ── Expressions ──

-- Two lists of functions, with their numbers of results, agree on those that an expression may call.
pub record Agree (callees : List Signature) (counts counts' : List ℕ) (ms ms' : List Meaning) : Type 0 where
  pub count : (f : ℕ) (s : Signature) → slice_get callees f ≡ Some s → get_or counts f 1 ≡ get_or counts' f 1
  pub call : (f : ℕ) (s : Signature) → slice_get callees f ≡ Some s → get_or ms f no_function ≡ get_or ms' f no_function

module _ (C : Context) (merge : Merging) (counts counts' : List ℕ) (ms ms' : List Meaning) (agree : Agree C.callees counts counts' ms ms') where
  mutual
    unfolding Types arity

    pub same_arity : (e : Expr) (Γ ts : List ℕ) → Types C e Γ ts → arity counts e ≡ arity counts' e
    same_arity (Expr.list es) Γ ts h = refl
    same_arity (Expr.integer n) Γ ts h = refl
    same_arity (Expr.boolean b) Γ ts h = refl
    same_arity (Expr.error f t) Γ ts h = refl
    same_arity (Expr.name n) Γ ts h = refl
    same_arity (Expr.unary op a) Γ ts h = refl
    same_arity (Expr.binary op a b) Γ ts h = refl
    same_arity (Expr.if test taken other) Γ ts h = same_arity taken Γ ts h.1
    same_arity (Expr.let_in definition body) Γ ts h = same_arity body (Γ ++ h.0) ts h.3
    same_arity (Expr.tagcase test arms) Γ ts h = same_first arms h.1 Γ ts h.5
    same_arity (Expr.for uses initial end) Γ ts h = refl
    same_arity (Expr.forall m low high part) Γ ts h = refl
    same_arity (Expr.call f a) Γ ts h = agree.count f h.0 h.1
    same_arity (Expr.record_of t e) Γ ts h = refl
    same_arity (Expr.field n e) Γ ts h = refl
    same_arity (Expr.union t tag e) Γ ts h = refl
    same_arity (Expr.array t low es) Γ ts h = refl
    same_arity (Expr.element a i) Γ ts h = refl

    pub same_first : (es : Exprs) (us Γ ts : List ℕ) → ArmsTypes C es us Γ ts → arity_first counts es ≡ arity_first counts' es
    same_first Exprs.none us Γ ts h = refl
    same_first (Exprs.◌then◌ e es) us Γ ts h = same_arity e (Γ ++ h.0 ∷ []) ts h.3

  as_many : (n n' : ℕ) → n ≡ n' → (free l : ℕ) → lay_undefs n free l ≡ lay_undefs n' free l
  as_many n n' e free l = ap (λ m. lay_undefs m free l) e

  mutual
    unfolding eval Types

    pub same_eval : (e : Expr) (Γ ts : List ℕ) → Types C e Γ ts → (names : List Value) (free b : ℕ) → eval merge counts ms e names free b ≡ eval merge counts' ms' e names free b
    same_eval (Expr.list es) Γ ts h names free b = same_step b _ _ (λ l. same_members es Γ ts h.2 names free l)
    same_eval (Expr.integer n) Γ ts h names free b = refl
    same_eval (Expr.boolean x) Γ ts h names free b = refl
    same_eval (Expr.error f t) Γ ts h names free b = refl
    same_eval (Expr.name n) Γ ts h names free b = refl
    same_eval (Expr.unary op e) Γ ts h names free b = same_step b _ _ (λ l. same_after _ _ _ _ (same_eval e Γ _ h.1 names free l) (λ us l₁. refl))
    same_eval (Expr.binary op d e) Γ ts h names free b =
        same_step b _ _ (λ l. same_after _ _ _ _ (same_eval d Γ _ h.0 names free l) (λ us l₁.
        same_after _ _ _ _ (same_eval e Γ _ h.1 names _ l₁) (λ vs l₂. refl)))
    same_eval (Expr.if test taken other) Γ ts h names free b =
        same_step b _ _ (λ l. same_after _ _ _ _ (same_eval test Γ _ h.0 names free l) (λ us l₁.
        same_branch _ _ _ _ _ _ _ l₁ (same_eval taken Γ ts h.1 names free l₁) (same_eval other Γ ts h.2 names free l₁)
        (as_many _ _ (same_arity taken Γ ts h.1) free l₁)))
    same_eval (Expr.let_in definition body) Γ ts h names free b =
        same_step b _ _ (λ l. same_after _ _ _ _ (same_eval definition Γ _ h.1 names free l) (λ us l₁. same_eval body _ ts h.3 _ _ l₁))
    same_eval (Expr.tagcase test arms) Γ ts h names free b =
        same_step b _ _ (λ l. same_after _ _ _ _ (same_eval test Γ _ h.2 names free l) (λ us l₁.
        same_tag _ _ _ _ _ l₁ (λ tag v. same_after _ _ _ _ refl (λ w l₂. same_arm arms h.1 Γ ts h.5 tag _ _ l₂))
        (as_many _ _ (same_first arms h.1 Γ ts h.5) free l₁)))
    same_eval (Expr.for uses initial end) Γ ts h names free b =
        same_step b _ _ (λ l. same_after _ _ _ _ (same_eval initial Γ _ h.2.1 names free l) (λ us l₁ i.
        loop (λ vs l₂. same_end (length uses) end _ _ uses h.2.3 (names ++ vs) (free - sizes vs) l₂ i) l₁ us l₁))
    same_eval (Expr.forall m low high part) Γ ts h names free b =
        same_step b _ _ (λ l. same_after _ _ _ _ (same_eval low Γ _ h.0 names free l) (λ us l₁.
        same_after _ _ _ _ (same_eval high Γ _ h.1 names _ l₁) (λ vs l₂ i.
        range_parts (λ n free₁ l₃. same_eval part _ _ h.3.1 (names ++ Value.integer n ∷ []) free₁ l₃ i) (merge l m) (as_integer (first us)) (as_integer (first vs)) free l₂)))
    same_eval (Expr.call f argument) Γ ts h names free b =
        same_step b _ _ (λ l. same_after _ _ _ _ (same_eval argument Γ _ h.2 names free l) (λ us l₁.
        ap (λ m. m us (free - sizes us) l₁) (agree.call f h.0 h.1)))
    same_eval (Expr.record_of t e) Γ ts h names free b = same_step b _ _ (λ l. same_after _ _ _ _ (same_eval e Γ _ h.2 names free l) (λ us l₁. refl))
    same_eval (Expr.field n e) Γ ts h names free b = same_step b _ _ (λ l. same_after _ _ _ _ (same_eval e Γ _ h.3 names free l) (λ us l₁. refl))
    same_eval (Expr.union t tag e) Γ ts h names free b = same_step b _ _ (λ l. same_after _ _ _ _ (same_eval e Γ _ h.4 names free l) (λ us l₁. refl))
    same_eval (Expr.array t low es) Γ ts h names free b =
        same_step b _ _ (λ l. same_after _ _ _ _ (same_eval low Γ _ h.3 names free l) (λ us l₁.
        same_after _ _ _ _ (same_eval es Γ _ h.4 names _ l₁) (λ vs l₂. refl)))
    same_eval (Expr.element a i) Γ ts h names free b =
        same_step b _ _ (λ l. same_after _ _ _ _ (same_eval a Γ _ h.2 names free l) (λ us l₁.
        same_after _ _ _ _ (same_eval i Γ _ h.4 names _ l₁) (λ vs l₂. refl)))

    same_members : (es : Exprs) (Γ ts : List ℕ) → MembersTypes C es Γ ts → (names : List Value) (free b : ℕ) → eval_members merge counts ms es names free b ≡ eval_members merge counts' ms' es names free b
    same_members Exprs.none Γ ts h names free b = refl
    same_members (Exprs.◌then◌ e es) Γ ts h names free b =
        same_after _ _ _ _ (same_eval e Γ _ h.2 names free b) (λ us l. same_after _ _ _ _ (same_members es Γ _ h.3 names _ l) (λ vs l₁. refl))

    same_arm : (es : Exprs) (cs Γ ts : List ℕ) → ArmsTypes C es cs Γ ts → (tag : ℕ) (names : List Value) (free b : ℕ) → eval_arm merge counts ms es tag names free b ≡ eval_arm merge counts' ms' es tag names free b
    same_arm Exprs.none cs Γ ts h tag names free b = refl
    same_arm (Exprs.◌then◌ e es) cs Γ ts h zero names free b = same_eval e _ ts h.3 names free b
    same_arm (Exprs.◌then◌ e es) cs Γ ts h (suc tag) names free b = same_arm es _ Γ ts h.4 tag names free b

    same_end : (n : ℕ) (e : LoopEnd) (us Γ ts : List ℕ) → EndTypes C e us Γ ts → (names : List Value) (free b : ℕ) → eval_end merge counts ms n e names free b ≡ eval_end merge counts' ms' n e names free b
    same_end n (LoopEnd.iter e) us Γ ts h names free b = same_step b _ _ (λ l. same_after _ _ _ _ (same_eval e Γ us h names free l) (λ vs l₁. refl))
    same_end n (LoopEnd.done e) us Γ ts h names free b = same_after _ _ _ _ (same_eval e Γ ts h.1 names free b) (λ vs l. refl)
    same_end n (LoopEnd.if_end test taken other) us Γ ts h names free b =
        same_step b _ _ (λ l. same_after _ _ _ _ (same_eval test Γ _ h.0 names free l) (λ vs l₁.
        same_branch _ _ _ _ _ _ _ l₁ (same_end n taken us Γ ts h.1 names free l₁) (same_end n other us Γ ts h.2 names free l₁) refl))
    same_end n (LoopEnd.let_end definition body) us Γ ts h names free b =
        same_step b _ _ (λ l. same_after _ _ _ _ (same_eval definition Γ _ h.1 names free l) (λ vs l₁. same_end n body us _ ts h.3 _ _ l₁))
    same_end n (LoopEnd.tagcase_end test arms) us Γ ts h names free b =
        same_step b _ _ (λ l. same_after _ _ _ _ (same_eval test Γ _ h.2 names free l) (λ vs l₁.
        same_tag _ _ _ _ _ l₁ (λ tag v. same_after _ _ _ _ refl (λ w l₂. same_arm_end n arms h.1 us Γ ts h.5 tag _ _ l₂)) refl))

    same_arm_end : (n : ℕ) (es : LoopEnds) (cs us Γ ts : List ℕ) → EndsTypes C es cs us Γ ts → (tag : ℕ) (names : List Value) (free b : ℕ)
        → eval_arm_end merge counts ms n es tag names free b ≡ eval_arm_end merge counts' ms' n es tag names free b
    same_arm_end n LoopEnds.no_ends cs us Γ ts h tag names free b = refl
    same_arm_end n (LoopEnds.◌or◌ e es) cs us Γ ts h zero names free b = same_end n e us _ ts h.3 names free b
    same_arm_end n (LoopEnds.◌or◌ e es) cs us Γ ts h (suc tag) names free b = same_arm_end n es _ us Γ ts h.4 tag names free b

-- ── Functions ──

-- What stands in the list of meanings stays where it is as the list grows.
meanings_stay : (merge : Merging) (fs : List Function) (counts : List ℕ) (ms : List Meaning) (n : ℕ) → n < length ms
    → get_or (meanings_from merge counts ms fs) n no_function ≡ get_or ms n no_function
unfolding meanings_from
meanings_stay merge [] counts ms n h = refl
meanings_stay merge (f ∷ fs) counts ms n h =
    let m : Meaning = λ us free b. eval merge counts ms f.body us free b in
    meanings_stay merge fs (counts ++ length f.results ∷ []) (ms ++ m ∷ []) n (omega (arith, length_push ms m))
    ∙ get_or_append_left ms (m ∷ []) no_function n h

-- As many functions are before, by their signatures, their numbers of results and their meanings.
record Alike (before : List Signature) (counts : List ℕ) (ms : List Meaning) : Type 0 where
  counted : length counts ≡ length before
  meant : length ms ≡ length before

module _ (rows : List Row) (merge : Merging) where
  -- Those before agree with those of the whole list.
  agreeing : (fs : List Function) (before : List Signature) (counts : List ℕ) (ms : List Meaning) → Alike before counts ms
      → Agree before counts (counts ++ counts_of fs) ms (meanings_from merge counts ms fs)
  agreeing fs before counts ms a =
      record {
        count = λ f s e. sym (get_or_append_left counts (counts_of fs) 1 f (omega (arith, (nth_there before f s e).0, a.counted)));
        call = λ f s e. sym (meanings_stay merge fs counts ms f (omega (arith, (nth_there before f s e).0, a.meant)));
      }

  linked : (fs : List Function) (before : List Signature) (counts : List ℕ) (ms : List Meaning) → Alike before counts ms → FunctionsFit rows before fs
      → (k : ℕ) (f : Function) → slice_get fs k ≡ Some f → (us : List Value) (free b : ℕ)
      → get_or (meanings_from merge counts ms fs) (length ms + k) no_function us free b
      ≡ eval merge (counts ++ counts_of fs) (meanings_from merge counts ms fs) f.body us free b
  unfolding meanings_from FunctionsFit counts_of
  linked [] before counts ms a t k f e us free b = absurd (none_some f e)
  linked (g ∷ fs) before counts ms a t zero f e us free b =
      let m : Meaning = λ us free b. eval merge counts ms g.body us free b in
      let all = meanings_from merge counts ms (g ∷ fs) in
      let here : get_or all (length ms + 0) no_function ≡ m =
      ap (λ n. get_or all n no_function) (let z : length ms + 0 ≡ length ms = omega arith in z)
      ∙ meanings_stay merge fs (counts ++ length g.results ∷ []) (ms ++ m ∷ []) (length ms) (omega (arith, length_push ms m))
      ∙ get_or_push ms m no_function (length ms) refl in
      subst (λ x. get_or all (length ms + 0) no_function us free b ≡ eval merge (counts ++ counts_of (g ∷ fs)) all x.body us free b) (same_some g f e)
      (ap (λ q. q us free b) here
      ∙ same_eval (context rows before) merge counts (counts ++ counts_of (g ∷ fs)) ms all (agreeing (g ∷ fs) before counts ms a) g.body g.parameters g.results t.0.typed us free b)
  linked (g ∷ fs) before counts ms a t (suc k) f e us free b =
      let m : Meaning = λ us free b. eval merge counts ms g.body us free b in
      let all = meanings_from merge counts ms (g ∷ fs) in
      let c = length g.results in
      let more : Alike (before ++ signature g ∷ []) (counts ++ c ∷ []) (ms ++ m ∷ []) =
      record {
        counted = omega (arith, a.counted, length_push counts c, length_push before (signature g));
        meant = omega (arith, a.meant, length_push ms m, length_push before (signature g));
      } in
      ap (λ n. get_or all n no_function us free b) (let z : length ms + suc k ≡ length (ms ++ m ∷ []) + k = omega (arith, length_push ms m) in z)
      ∙ linked fs (before ++ signature g ∷ []) (counts ++ c ∷ []) (ms ++ m ∷ []) more t.1 k f e us free b
      ∙ ap (λ cs. eval merge cs all f.body us free b) (append_assoc counts (c ∷ []) (counts_of fs))

pub calls_run_bodies : CallsRunBodies
calls_run_bodies merge m w n f e us free b =
    ap (λ k. get_or (meanings merge m.functions) k no_function us free b) (let z : n ≡ 0 + n = omega arith in z)
    ∙ linked m.rows merge m.functions [] [] [] (record { counted = refl; meant = refl }) w.functions_fit n f e us free b
