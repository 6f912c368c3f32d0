-- Whatever module the verdict accepts is what the bytes encode, and well typed.
use Rattle.std.proofs.Common.{◌≡◌, ℕ, zero, suc, ◌+◌, ◌<◌, ◌≤◌, Bool, true, false, cond, not, ◌&&◌, eqb, leb, List, [], ◌∷◌, ◌++◌, length, get_or, sym, refl, ap, ◌∙◌, subst, arith}
use Rattle.std.proofs.lemmas.List.{append_assoc, append-nil}
use Rattle.std.proofs.lemmas.Bool.{and_parts, leb-true, eqb-true, not-true}
use Rattle.values.specs.declared.row.Row.{Row}
use Rattle.values.specs.declared.row.Row.TheVariants as rows
use Rattle.values.specs.declared.refusal.Refusal.TheVariants.{Cut, Strange, Twin, Clash, Oversize}
use Rattle.values.specs.Rows.{all_below, uses}
use Rattle.language.specs.Syntax.{Function, Module}
use Rattle.language.specs.Encoding.{encode_uses, encode_row, encode_rows, encode_function, encode_functions, encode_module, encode_expr}
use Rattle.language.specs.Sorts.{same, has_twin}
use Rattle.language.specs.Typing.{Context, context, signature, signatures, Few, Types, RowFits, RowsFit, FunctionFits, FunctionsFit, WellTyped, ZeroedRow}
use Rattle.verdict.specs.declared.kinds.Shape.{Shape}
use Rattle.verdict.specs.declared.kinds.Shape.TheVariants as shape
use Rattle.verdict.specs.Outcomes.{accepted, refused, passes, found, first_at, whole, body, lookup}
use Rattle.verdict.specs.Bodies.{few, uses_at, members_of}
use Rattle.verdict.specs.Expressions.{expr}
use Rattle.verdict.specs.Modules.{shapes, counted_uses, shaped, row_at, rows_at, function_at, functions_at, module_at, verdict}
use Rattle.verdict.proofs.Members.{used_members_of, zeroed_members_of}
use Rattle.verdict.proofs.Spans.{not_accepted, after_inv, accepted_inv, judged_inv, passes_inv, found_inv, whole_inv, first_inv, Span, span_nil, span_cons, span_join, span_one, span_two, span_all}
use Rattle.verdict.proofs.Heads.{lookup_all, UsesAre, uses_sound, few_from}
use Rattle.verdict.proofs.Sames.{same_true}
use Rattle.verdict.proofs.Sound.{sound}

abbrev pub shape_byte : Shape → ℕ
shape_byte shape.Array = 0x12
shape_byte shape.Record = 0x13
shape_byte shape.Union = 0x14

abbrev ShapeSays : ℕ → Shape → Type 0
ShapeSays b k = shape_byte k ≡ b

-- A row without its kind byte, as far as it does not look at the rows before.
pub record Row_is (limit : ℕ) (bs : List ℕ) (p : ℕ) (r : Row) (q : ℕ) : Type 0 where
  pub span : Span bs p (encode_row r) q
  pub lower : all_below limit (uses r) ≡ true
  pub zeroed : ZeroedRow r

pub record Counted (limit : ℕ) (bs : List ℕ) (p : ℕ) (ts : List ℕ) (q : ℕ) : Type 0 where
  pub span : Span bs (p + 1) (length ts ∷ encode_uses ts) q
  pub few_uses : Few (length ts)
  pub below : all_below limit ts ≡ true

counted_sound : (limit : ℕ) (bs : List ℕ) (p : ℕ) (ts : List ℕ) (q : ℕ) → counted_uses limit bs p ≡ accepted ts q → Counted limit bs p ts q
counted_sound limit bs p ts q e =
    let n = body bs p 1 in
    let x = after_inv (whole 1 bs p) _ ts q e in
    let w = whole_inv 1 bs p x.0 x.1 x.2 in
    let y = after_inv (passes (Strange p) (few n) x.1) _ ts q x.3 in
    let d = passes_inv (Strange p) (few n) x.1 y.0 y.1 y.2 in
    let u = uses_sound n limit bs y.1 ts q y.3 in
    record {
      span = subst (λ a. Span bs (p + 1) (a ∷ encode_uses ts) q) (sym u.long) (span_join bs (p + 1) (n ∷ []) (encode_uses ts) y.1 q (span_one bs p y.1 w.0 (w.1 ∙ d.1)) u.span);
      few_uses = subst Few (sym u.long) (few_from n d.0);
      below = u.below;
    }

one_use : (limit : ℕ) (bs : List ℕ) (p : ℕ) (ts : List ℕ) (q : ℕ) → UsesAre 1 limit bs p ts q → ts ≡ get_or ts 0 0 ∷ []
one_use limit bs p [] q u = absurd (let l = u.long in let z : ◌≡◌ {A = ℕ} 0 1 = l in omega arith)
one_use limit bs p (t ∷ []) q u = refl
one_use limit bs p (t ∷ (v ∷ ts)) q u = absurd (omega (arith, u.long))

moved_row : {limit : ℕ} {bs : List ℕ} {p : ℕ} (r : Row) {s : ℕ} {o : Row} {q : ℕ} → Row_is limit bs p r s → r ≡ o → s ≡ q → Row_is limit bs p o q
moved_row {limit} {bs} {p} r {s} {o} {q} i x y = subst (λ v. Row_is limit bs p v q) x (subst (λ v. Row_is limit bs p r v) y i)

shaped_sound : (k : Shape) (limit : ℕ) (bs : List ℕ) (p : ℕ) (r : Row) (q : ℕ) → p < length bs → get_or bs p 0 ≡ shape_byte k → shaped k limit bs p ≡ accepted r q → Row_is limit bs p r q
shaped_sound shape.Array limit bs p r q lt b e =
    let x = after_inv (uses_at 1 limit bs (p + 1)) _ r q e in
    let j = accepted_inv (rows.Array (get_or x.0 0 0)) r x.1 q x.3 in
    let u = uses_sound 1 limit bs (p + 1) x.0 x.1 x.2 in
    let o = one_use limit bs (p + 1) x.0 x.1 u in
    moved_row (rows.Array (get_or x.0 0 0)) (record { span = span_cons lt b (subst (λ z. Span bs (p + 1) (encode_uses z) x.1) o u.span); lower = subst (λ z. all_below limit z ≡ true) o u.below; zeroed = tt }) j.0 j.1
shaped_sound shape.Record limit bs p r q lt b e =
    let x = after_inv (counted_uses limit bs p) _ r q e in
    let j = accepted_inv (rows.Record (members_of x.0)) r x.1 q x.3 in
    let c = counted_sound limit bs p x.0 x.1 x.2 in
    let m = used_members_of x.0 c.few_uses in
    moved_row (rows.Record (members_of x.0)) (record { span = span_cons lt b (subst (λ z. Span bs (p + 1) (length z ∷ encode_uses z) x.1) (sym m) c.span); lower = subst (λ z. all_below limit z ≡ true) (sym m) c.below; zeroed = zeroed_members_of x.0 c.few_uses }) j.0 j.1
shaped_sound shape.Union limit bs p r q lt b e =
    let x = after_inv (counted_uses limit bs p) _ r q e in
    let j = accepted_inv (rows.Union (members_of x.0)) r x.1 q x.3 in
    let c = counted_sound limit bs p x.0 x.1 x.2 in
    let m = used_members_of x.0 c.few_uses in
    moved_row (rows.Union (members_of x.0)) (record { span = span_cons lt b (subst (λ z. Span bs (p + 1) (length z ∷ encode_uses z) x.1) (sym m) c.span); lower = subst (λ z. all_below limit z ≡ true) (sym m) c.below; zeroed = zeroed_members_of x.0 c.few_uses }) j.0 j.1

row_sound : (bs : List ℕ) (before : List Row) (p : ℕ) (r : Row) (q : ℕ) → row_at bs before p ≡ accepted r q → Span bs p (encode_row r) q × RowFits before r
row_sound bs before p r q e =
    let x = after_inv (first_at bs p) _ r q e in
    let f = first_inv bs p x.0 x.1 x.2 in
    let y = after_inv (found (Strange p) (lookup shapes x.0) x.1) _ r q x.3 in
    let g = found_inv (Strange p) (lookup shapes x.0) x.1 y.0 y.1 y.2 in
    let b = f.1 ∙ sym (lookup_all ShapeSays shapes x.0 y.0 (refl, (refl, (refl, tt))) g.0) in
    let z = after_inv (shaped y.0 (length before + 2) bs p) _ r q y.3 in
    let i = shaped_sound y.0 (length before + 2) bs p z.0 z.1 f.0 b z.2 in
    let j = judged_inv (Twin p) (not (has_twin before z.0)) z.0 z.1 r q z.3 in
    let P : Row → Type 0 = λ v. Span bs p (encode_row v) q × RowFits before v in
    subst P j.1 (subst (λ v. Span bs p (encode_row z.0) v) j.2 i.span, record { lower = i.lower; new = not-true _ j.0; zeroed = i.zeroed })

-- Rows behind others.
pub record RowsAre (n : ℕ) (bs : List ℕ) (before : List Row) (p : ℕ) (all : List Row) (q : ℕ) : Type 0 where
  pub more : List Row
  pub are : all ≡ before ++ more
  pub long : length more ≡ n
  pub span : Span bs p (encode_rows more) q
  pub fit : RowsFit before more

pub rows_sound : (n : ℕ) (bs : List ℕ) (before : List Row) (p : ℕ) (all : List Row) (q : ℕ) → rows_at n bs before p ≡ accepted all q → RowsAre n bs before p all q
unfolding rows_at encode_rows RowsFit
rows_sound zero bs before p all q e =
    let j = accepted_inv before all p q e in
    record { more = []; are = sym j.0 ∙ sym (append-nil before); long = refl; span = subst (λ z. Span bs p [] z) j.1 (span_nil bs p); fit = tt }
rows_sound (suc n) bs before p all q e =
    let x = after_inv (row_at bs before p) _ all q e in
    let r = row_sound bs before p x.0 x.1 x.2 in
    let i = rows_sound n bs (before ++ x.0 ∷ []) x.1 all q x.3 in
    record {
      more = x.0 ∷ i.more;
      are = i.are ∙ append_assoc before (x.0 ∷ []) i.more;
      long = omega (arith, i.long);
      span = span_join bs p (encode_row x.0) (encode_rows i.more) x.1 q r.0 i.span;
      fit = (r.1, i.fit);
    }

function_sound : (C : Context) (bs : List ℕ) → ((i : ℕ) → get_or bs i 0 < 256) → (p : ℕ) (f : Function) (q : ℕ) → function_at C bs p ≡ accepted f q → Span bs p (encode_function f) q × FunctionFits C f
function_sound C bs bytes p f q e =
    let x = after_inv (first_at bs p) _ f q e in
    let h = first_inv bs p x.0 x.1 x.2 in
    let y = after_inv (passes (Strange p) (eqb x.0 0x20) x.1) _ f q x.3 in
    let k = passes_inv (Strange p) (eqb x.0 0x20) x.1 y.0 y.1 y.2 in
    let z = after_inv (whole 2 bs p) _ f q y.3 in
    let w = whole_inv 2 bs p z.0 z.1 z.2 in
    let v = after_inv (passes (Strange p) (few (body bs p 1) && few (body bs p 2)) z.1) _ f q z.3 in
    let d = passes_inv (Strange p) (few (body bs p 1) && few (body bs p 2)) z.1 v.0 v.1 v.2 in
    let c = and_parts (few (body bs p 1)) (few (body bs p 2)) d.0 in
    let s = after_inv (uses_at (body bs p 1) (length C.rows + 2) bs v.1) _ f q v.3 in
    let ps = uses_sound (body bs p 1) (length C.rows + 2) bs v.1 s.0 s.1 s.2 in
    let t = after_inv (uses_at (body bs p 2) (length C.rows + 2) bs s.1) _ f q s.3 in
    let rs = uses_sound (body bs p 2) (length C.rows + 2) bs s.1 t.0 t.1 t.2 in
    let u = after_inv (expr C 100 bs s.0 t.1) _ f q t.3 in
    let i = sound C 100 bs bytes s.0 t.1 u.0 u.1 u.2 in
    let j = judged_inv (Clash p) (same t.0 u.0.types) (record { parameters = s.0; results = t.0; body = u.0.tree }) u.1 f q u.3 in
    let P : Function → Type 0 = λ g. Span bs p (encode_function g) q × FunctionFits C g in
    let heads : Span bs (p + 1) (length s.0 ∷ length t.0 ∷ []) v.1 =
    subst (λ n. Span bs (p + 1) (n ∷ length t.0 ∷ []) v.1) (sym ps.long) (subst (λ n. Span bs (p + 1) (body bs p 1 ∷ n ∷ []) v.1) (sym rs.long) (span_two bs p v.1 w.0 (w.1 ∙ d.1))) in
    let tail : Span bs v.1 (encode_uses s.0 ++ (encode_uses t.0 ++ encode_expr u.0.tree)) q =
    span_join bs v.1 _ _ s.1 q ps.span (span_join bs s.1 _ _ t.1 q rs.span (subst (λ n. Span bs t.1 (encode_expr u.0.tree) n) j.2 i.span)) in
    subst P j.1 (
      span_cons h.0 (h.1 ∙ eqb-true _ _ k.0) (span_join bs (p + 1) (length s.0 ∷ length t.0 ∷ []) _ v.1 q heads tail),
      record {
        few_parameters = subst Few (sym ps.long) (few_from _ c.0);
        few_results = subst Few (sym rs.long) (few_from _ c.1);
        parameters_declared = ps.below;
        results_declared = rs.below;
        typed = subst (Types C u.0.tree s.0) (sym (same_true t.0 u.0.types j.0)) i.types;
        shallow = i.within;
      },
    )

pub signatures_push : (fs : List Function) (f : Function) → signatures (fs ++ f ∷ []) ≡ signatures fs ++ signature f ∷ []
signatures_push [] f = refl
signatures_push (g ∷ fs) f = ap (λ z. signature g ∷ z) (signatures_push fs f)

pub record FunctionsAre (n : ℕ) (rs : List Row) (bs : List ℕ) (before : List Function) (p : ℕ) (all : List Function) (q : ℕ) : Type 0 where
  pub more : List Function
  pub are : all ≡ before ++ more
  pub long : length more ≡ n
  pub span : Span bs p (encode_functions more) q
  pub fit : FunctionsFit rs (signatures before) more

pub functions_sound : (n : ℕ) (rs : List Row) (bs : List ℕ) → ((i : ℕ) → get_or bs i 0 < 256) → (before : List Function) (p : ℕ) (all : List Function) (q : ℕ) → functions_at n rs bs before p ≡ accepted all q → FunctionsAre n rs bs before p all q
unfolding functions_at encode_functions FunctionsFit
functions_sound zero rs bs bytes before p all q e =
    let j = accepted_inv before all p q e in
    record { more = []; are = sym j.0 ∙ sym (append-nil before); long = refl; span = subst (λ z. Span bs p [] z) j.1 (span_nil bs p); fit = tt }
functions_sound (suc n) rs bs bytes before p all q e =
    let x = after_inv (function_at (context rs (signatures before)) bs p) _ all q e in
    let r = function_sound (context rs (signatures before)) bs bytes p x.0 x.1 x.2 in
    let i = functions_sound n rs bs bytes (before ++ x.0 ∷ []) x.1 all q x.3 in
    record {
      more = x.0 ∷ i.more;
      are = i.are ∙ append_assoc before (x.0 ∷ []) i.more;
      long = omega (arith, i.long);
      span = span_join bs p (encode_function x.0) (encode_functions i.more) x.1 q r.0 i.span;
      fit = (r.1, subst (λ z. FunctionsFit rs z i.more) (signatures_push before x.0) i.fit);
    }

module_sound : (bs : List ℕ) → ((i : ℕ) → get_or bs i 0 < 256) → (m : Module) (q : ℕ) → module_at bs ≡ accepted m q → (bs ≡ encode_module m) × WellTyped m × (q ≡ length bs)
unfolding encode_module
module_sound bs bytes m q e =
    let x = after_inv (first_at bs 0) _ m q e in
    let h = first_inv bs 0 x.0 x.1 x.2 in
    let y = after_inv (passes (Strange 0) (eqb x.0 0x01) x.1) _ m q x.3 in
    let k = passes_inv (Strange 0) (eqb x.0 0x01) x.1 y.0 y.1 y.2 in
    let z = after_inv (whole 2 bs 0) _ m q y.3 in
    let w = whole_inv 2 bs 0 z.0 z.1 z.2 in
    let v = after_inv (passes (Strange 0) (leb (body bs 0 1) 60) z.1) _ m q z.3 in
    let d = passes_inv (Strange 0) (leb (body bs 0 1) 60) z.1 v.0 v.1 v.2 in
    let u = after_inv (passes (Strange 0) (leb 1 (body bs 0 2) && leb (body bs 0 2) 60) v.1) _ m q v.3 in
    let c = passes_inv (Strange 0) (leb 1 (body bs 0 2) && leb (body bs 0 2) 60) v.1 u.0 u.1 u.2 in
    let n = and_parts (leb 1 (body bs 0 2)) (leb (body bs 0 2) 60) c.0 in
    let s = after_inv (rows_at (body bs 0 1) bs [] u.1) _ m q u.3 in
    let rs = rows_sound (body bs 0 1) bs [] u.1 s.0 s.1 s.2 in
    let t = after_inv (functions_at (body bs 0 2) s.0 bs [] s.1) _ m q s.3 in
    let fs = functions_sound (body bs 0 2) s.0 bs bytes [] s.1 t.0 t.1 t.2 in
    let j = judged_inv (Cut t.1) (eqb t.1 (length bs)) (record { rows = s.0; functions = t.0 }) t.1 m q t.3 in
    let rows_long : length s.0 ≡ body bs 0 1 = ap length rs.are ∙ rs.long in
    let functions_long : length t.0 ≡ body bs 0 2 = ap length fs.are ∙ fs.long in
    let heads : Span bs 1 (length s.0 ∷ length t.0 ∷ []) u.1 =
    subst (λ a. Span bs 1 (a ∷ length t.0 ∷ []) u.1) (sym rows_long) (subst (λ a. Span bs 1 (body bs 0 1 ∷ a ∷ []) u.1) (sym functions_long) (span_two bs 0 u.1 w.0 (w.1 ∙ (d.1 ∙ c.1)))) in
    let tail : Span bs u.1 (encode_rows s.0 ++ encode_functions t.0) t.1 =
    span_join bs u.1 _ _ s.1 t.1 (subst (λ a. Span bs u.1 (encode_rows a) s.1) (sym rs.are) rs.span) (subst (λ a. Span bs s.1 (encode_functions a) t.1) (sym fs.are) fs.span) in
    let all : Span bs 0 (0x01 ∷ length s.0 ∷ length t.0 ∷ (encode_rows s.0 ++ encode_functions t.0)) t.1 =
    span_cons h.0 (h.1 ∙ eqb-true _ _ k.0) (span_join bs 1 (length s.0 ∷ length t.0 ∷ []) _ u.1 t.1 heads tail) in
    let long : t.1 ≡ length bs = eqb-true _ _ j.0 in
    let P : Module → Type 0 = λ a. (bs ≡ encode_module a) × WellTyped a × (q ≡ length bs) in
    subst P j.1 (
      span_all bs _ t.1 all long,
      record {
        few_rows = omega (arith, rows_long, leb-true (body bs 0 1) 60 d.0);
        some_functions = omega (arith, functions_long, leb-true 1 (body bs 0 2) n.0);
        few_functions = omega (arith, functions_long, leb-true (body bs 0 2) 60 n.1);
        rows_fit = subst (RowsFit []) (sym rs.are) rs.fit;
        functions_fit = subst (FunctionsFit s.0 []) (sym fs.are) fs.fit;
      },
      sym j.2 ∙ long,
    )

verdict_by : (b : Bool) (bs : List ℕ) (m : Module) (q : ℕ) → cond b (module_at bs) (refused Oversize) ≡ accepted m q → (b ≡ true) × (module_at bs ≡ accepted m q)
verdict_by true bs m q e = (refl, e)
verdict_by false bs m q e = absurd (not_accepted Oversize m q e)

-- What is accepted encodes a well-typed module of at most 16384 bytes.
pub verdict_sound : (bs : List ℕ) → ((i : ℕ) → get_or bs i 0 < 256) → (m : Module) (q : ℕ) → verdict bs ≡ accepted m q → (length bs ≤ 16384) × (bs ≡ encode_module m) × WellTyped m × (q ≡ length bs)
verdict_sound bs bytes m q e =
    let x = verdict_by (leb (length bs) 16384) bs m q e in
    let y = module_sound bs bytes m q x.1 in
    (leb-true (length bs) 16384 x.0, y.0, y.1, y.2)
