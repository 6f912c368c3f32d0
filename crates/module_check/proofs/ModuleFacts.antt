-- Reading rows and functions one behind the other.
use Rattle.std.proofs.Common.{◌≡◌, ℕ, suc, ◌+◌, ◌-◌, ◌<◌, ◌≤◌, true, List, [], ◌∷◌, ◌++◌, map, length, Ok, Err, Result, is_ok, sym, refl, ap, ◌∙◌, subst, ap₂, arith, length-append}
use Rattle.std.proofs.lemmas.List.{append_assoc, append-nil, map-append}
use Rattle.std.proofs.lemmas.Bool.{le-leb, eq-eqb, false≢true}
use Rattle.values.specs.declared.refusal.Refusal.{Refusal}
use Rattle.values.specs.declared.row.Row.{Row}
use Rattle.values.specs.declared.row_error.RowError.{RowError}
use Rattle.values.specs.declared.refusal.Refusal.TheVariants.{Clash}
use Rattle.values.specs.Tables.{Pushed}
use Rattle.language.specs.declared.function.Function as code
use Rattle.language.specs.declared.node.Node.{Node}
use Rattle.language.specs.Syntax.{Expr, Function}
use Rattle.language.specs.Sorts.{same}
use Rattle.language.specs.Typing.{Context, signatures, context, result_counts}
use Rattle.language.specs.Tables.{flat, Entry, entry, said, entries, nodes_of}
use Rattle.verdict.specs.Outcomes.{accepted, after, judged, first_at, whole, body}
use Rattle.verdict.specs.Bodies.{few, uses_at}
use Rattle.verdict.specs.Judging.{typed}
use Rattle.verdict.specs.Expressions.{expr}
use Rattle.verdict.specs.Modules.{row_at, rows_at, function_at, functions_at, module_at}
use Rattle.verdict.proofs.Sames.{same_refl}
use Rattle.verdict.proofs.SoundModules.{signatures_push}
use Rattle.module_check.specs.Views.{seen, seen_all}
use Rattle.module_check.specs.Reading.{Declines}
use Rattle.module_check.proofs.Facts.{declines_after, judged_else}

-- Rows.
module _ (n : ℕ) (bs : List ℕ) (first : List Row) (start : ℕ) where
  abbrev pub Rowing : ℕ → List Row → ℕ → Type 0
  Rowing i rows place = rows_at n bs first start ≡ rows_at (n - i) bs rows place

  pub rowing_more : (i : ℕ) (rows after : List Row) (place next : ℕ) (r : Row) → Rowing i rows place → i < n → row_at bs rows place ≡ accepted r next → after ≡ rows ++ r ∷ [] → Rowing (i + 1) after next
  unfolding rows_at
  rowing_more i rows after place next r h lt e f =
      let m : n - i ≡ suc (n - (i + 1)) = omega arith in
      h ∙ (ap (λ k. rows_at k bs rows place) m ∙ (rw e (ap (λ z. rows_at (n - (i + 1)) bs z next) (sym f))))

  pub rowing_fails : (i : ℕ) (rows : List Row) (place : ℕ) (e : Refusal) → Rowing i rows place → i < n → Declines (row_at bs rows place) e → Declines (rows_at n bs first start) e
  unfolding rows_at
  rowing_fails i rows place e h lt d =
      let m : n - i ≡ suc (n - (i + 1)) = omega arith in
      subst (λ o. Declines o e) (sym (h ∙ ap (λ k. rows_at k bs rows place) m)) (declines_after (row_at bs rows place) _ e d)

  pub rowing_done : (i : ℕ) (rows : List Row) (place : ℕ) → Rowing i rows place → n ≤ i → rows_at n bs first start ≡ accepted rows place
  unfolding rows_at
  rowing_done i rows place h le =
      let m : n - i ≡ 0 = omega arith in
      h ∙ ap (λ k. rows_at k bs rows place) m

-- A row that was added is the last.
pub row_pushed : (before : List Row) (row : Row) (behind : List Row) (r : Result ℕ RowError) → Pushed before row behind r → is_ok r ≡ true → behind ≡ before ++ row ∷ []
row_pushed before row behind (Ok n) p h = p.3
row_pushed before row behind (Err e) p h = absurd (false≢true h)

-- Functions: what the tables say of those read so far.
counts_push : (gs : List Function) (g : Function) → result_counts (signatures (gs ++ g ∷ [])) ≡ result_counts (signatures gs) ++ length g.results ∷ []
counts_push [] g = refl
counts_push (h ∷ gs) g = ap (λ z. length h.results ∷ z) (counts_push gs g)

nodes_push : (counts : List ℕ) (gs : List Function) (g : Function) → nodes_of counts (gs ++ g ∷ []) ≡ nodes_of counts gs ++ flat (counts ++ result_counts (signatures gs)) g.body
unfolding nodes_of
nodes_push counts [] g = append-nil (flat counts g.body) ∙ ap (λ z. flat z g.body) (sym (append-nil counts))
nodes_push counts (h ∷ gs) g =
    ap (λ z. flat counts h.body ++ z) (nodes_push (counts ++ length h.results ∷ []) gs g)
    ∙ (sym (append_assoc (flat counts h.body) (nodes_of (counts ++ length h.results ∷ []) gs) _)
    ∙ ap (λ z. (flat counts h.body ++ nodes_of (counts ++ length h.results ∷ []) gs) ++ flat z g.body) (append_assoc counts (length h.results ∷ []) (result_counts (signatures gs))))

entries_push : (counts : List ℕ) (place : ℕ) (gs : List Function) (g : Function) → entries counts place (gs ++ g ∷ []) ≡ entries counts place gs ++ entry g.parameters g.results (place + length (nodes_of counts gs)) ∷ []
unfolding entries nodes_of
entries_push counts place [] g = ap (λ z. entry g.parameters g.results z ∷ []) (omega arith)
entries_push counts place (h ∷ gs) g =
    let e : (place + length (flat counts h.body)) + length (nodes_of (counts ++ length h.results ∷ []) gs) ≡ place + length (flat counts h.body ++ nodes_of (counts ++ length h.results ∷ []) gs) = omega (arith, length-append (flat counts h.body) (nodes_of (counts ++ length h.results ∷ []) gs)) in
    ap (λ z. entry h.parameters h.results place ∷ z)
    (entries_push (counts ++ length h.results ∷ []) (place + length (flat counts h.body)) gs g
    ∙ ap (λ k. entries (counts ++ length h.results ∷ []) (place + length (flat counts h.body)) gs ++ entry g.parameters g.results k ∷ []) e)

module _ (n : ℕ) (rows : List Row) (bs : List ℕ) (start : ℕ) where
  abbrev pub Defining : ℕ → List code.Function → List Node → ℕ → Type 0
  Defining i fs nodes place =
      (gs : List Function) × (functions_at n rows bs [] start ≡ functions_at (n - i) rows bs gs place)
      × (seen_all fs ≡ signatures gs) × (map said fs ≡ entries [] 0 gs) × (nodes ≡ nodes_of [] gs)

  pub defining_none : (fs : List code.Function) (nodes : List Node) → fs ≡ [] → nodes ≡ [] → Defining 0 fs nodes start
  unfolding entries nodes_of
  defining_none fs nodes e d =
      let m : n - 0 ≡ n = omega arith in
      ([], ap (λ k. functions_at k rows bs [] start) (sym m), ap seen_all e, ap (map said) e, d)

  pub defining_more : (i : ℕ) (fs more : List code.Function) (nodes next : List Node) (place q : ℕ) (f : code.Function) (g : Function) → (D : Defining i fs nodes place) → i < n → function_at (context rows (seen_all fs)) bs place ≡ accepted g q → said f ≡ entry g.parameters g.results (length nodes) → next ≡ nodes ++ flat (result_counts (seen_all fs)) g.body → more ≡ fs ++ f ∷ [] → Defining (i + 1) more next q
  unfolding functions_at
  defining_more i fs more nodes next place q f g D lt x s nn m =
      let gs = D.0 in
      let k : n - i ≡ suc (n - (i + 1)) = omega arith in
      let y : function_at (context rows (signatures gs)) bs place ≡ accepted g q = ap (λ z. function_at (context rows z) bs place) (sym D.2) ∙ x in (
        gs ++ g ∷ [],
        D.1 ∙ (ap (λ j. functions_at j rows bs gs place) k ∙ ap (λ o. after o (λ a b. functions_at (n - (i + 1)) rows bs (gs ++ a ∷ []) b)) y),
        ap seen_all m ∙ (map-append seen fs (f ∷ []) ∙ (ap₂ (λ a b. a ++ b ∷ []) D.2 (ap (λ (e : Entry). record { parameters = e.parameters; results = e.results }) s) ∙ sym (signatures_push gs g))),
        ap (map said) m ∙ (map-append said fs (f ∷ []) ∙ (ap₂ (λ a b. a ++ b ∷ []) D.3 (s ∙ ap (λ z. entry g.parameters g.results z) (ap length D.4 ∙ zero_plus (length (nodes_of [] gs)))) ∙ sym (entries_push [] 0 gs g))),
        nn ∙ (ap₂ (λ a b. a ++ flat (result_counts b) g.body) D.4 D.2 ∙ sym (nodes_push [] gs g)),
      )
    where
      zero_plus : (k : ℕ) → k ≡ 0 + k
      zero_plus k = omega arith

  pub defining_fails : (i : ℕ) (fs : List code.Function) (nodes : List Node) (place : ℕ) (e : Refusal) → Defining i fs nodes place → i < n → Declines (function_at (context rows (seen_all fs)) bs place) e → Declines (functions_at n rows bs [] start) e
  unfolding functions_at
  defining_fails i fs nodes place e D lt d =
      let k : n - i ≡ suc (n - (i + 1)) = omega arith in
      subst (λ o. Declines o e) (sym (D.1 ∙ ap (λ j. functions_at j rows bs D.0 place) k))
      (declines_after (function_at (context rows (signatures D.0)) bs place) _ e (subst (λ z. Declines (function_at (context rows z) bs place) e) D.2 d))

  pub defining_done : (i : ℕ) (fs : List code.Function) (nodes : List Node) (place : ℕ) (D : Defining i fs nodes place) → n ≤ i → functions_at n rows bs [] start ≡ accepted D.0 place
  unfolding functions_at
  defining_done i fs nodes place D le =
      let k : n - i ≡ 0 = omega arith in
      D.1 ∙ ap (λ j. functions_at j rows bs D.0 place) k

-- A function whose parts were read before its body, which has its results' types or is at fault.
module _ (C : Context) (bs : List ℕ) (p b k w : ℕ) (ps rs : List ℕ) (r s : ℕ) (f : first_at bs p ≡ accepted b k) (z : b ≡ 0x20) (h : whole 2 bs p ≡ accepted tt w) (c1 : few (body bs p 1) ≡ true) (c2 : few (body bs p 2) ≡ true) (u : uses_at (body bs p 1) (length C.rows + 2) bs w ≡ accepted ps r) (v : uses_at (body bs p 2) (length C.rows + 2) bs r ≡ accepted rs s) where
  pub function_reads : (e : Expr) (q : ℕ) → expr C 100 bs ps s ≡ accepted (typed e rs) q → function_at C bs p ≡ accepted (record { parameters = ps; results = rs; body = e }) q
  function_reads e q x =
      let z' = eq-eqb b 0x20 z in
      let g = same_refl rs in
      rw (f, z', h, c1, c2, u, v, x, g)

  pub function_fails : (e : Refusal) → Declines (after (expr C 100 bs ps s) (λ a q. judged (Clash p) (same rs a.types) a q)) e → Declines (function_at C bs p) e
  function_fails e d =
      let z' = eq-eqb b 0x20 z in
      rw (f, z', h, c1, c2, u, v) (judged_else (expr C 100 bs ps s) (Clash p) (λ a. same rs a.types) (λ a. a) (λ a. record { parameters = ps; results = rs; body = a.tree }) e d)

-- A module whose parts were read.
pub module_reads : (bs : List ℕ) (b k w : ℕ) (rs : List Row) (fs : List Function) (r s : ℕ) → first_at bs 0 ≡ accepted b k → b ≡ 0x01 → whole 2 bs 0 ≡ accepted tt w → body bs 0 1 ≤ 60 → 1 ≤ body bs 0 2 → body bs 0 2 ≤ 60 → rows_at (body bs 0 1) bs [] w ≡ accepted rs r → functions_at (body bs 0 2) rs bs [] r ≡ accepted fs s → s ≡ length bs → module_at bs ≡ accepted (record { rows = rs; functions = fs }) s
module_reads bs b k w rs fs r s f z h c1 c2 c3 u v e =
    let z' = eq-eqb b 0x01 z in
    let l1 = le-leb (body bs 0 1) 60 c1 in
    let l2 = le-leb 1 (body bs 0 2) c2 in
    let l3 = le-leb (body bs 0 2) 60 c3 in
    let g = eq-eqb s (length bs) e in
    rw (f, z', h, l1, l2, l3, u, v, g)
