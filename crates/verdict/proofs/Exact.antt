-- The verdict accepts exactly the encodings of well-typed modules.
use Rattle.std.proofs.Common.{◌≡◌, ℕ, ◌+◌, ◌<◌, true, cond, eqb, leb, List, [], ◌∷◌, ◌++◌, length, get_or, Some, sym, refl, ap, ◌∙◌, subst, arith}
use Rattle.std.proofs.lemmas.List.{append_assoc, append-nil}
use Rattle.std.proofs.lemmas.Bool.{le-leb, eq-eqb, not_from_false}
use Rattle.values.specs.declared.row.Row.{Row}
use Rattle.values.specs.declared.row.Row.TheVariants as rows
use Rattle.values.specs.declared.refusal.Refusal.TheVariants.{Oversize}
use Rattle.values.specs.Rows.{used, all_below, uses}
use Rattle.language.specs.Syntax.{Expr, Function, Module}
use Rattle.language.specs.Encoding.{encode_uses, encode_row, encode_rows, encode_function, encode_functions, encode_module, encode_expr}
use Rattle.language.specs.Typing.{Context, context, signatures, Few, RowFits, RowsFit, FunctionFits, FunctionsFit, WellTyped, ZeroedRow}
use Rattle.verdict.specs.declared.kinds.Shape.{Shape}
use Rattle.verdict.specs.declared.kinds.Shape.TheVariants as shape
use Rattle.verdict.specs.Outcomes.{accepted, refused, after, first_at, whole, body, lookup}
use Rattle.verdict.specs.Bodies.{few, uses_at, members_of}
use Rattle.verdict.specs.Judging.{typed}
use Rattle.verdict.specs.Expressions.{expr}
use Rattle.verdict.specs.Modules.{shapes, counted_uses, shaped, row_at, rows_at, function_at, functions_at, module_at, verdict}
use Rattle.verdict.specs.Exactness.{Encodes, AcceptsExactly}
use Rattle.verdict.proofs.Members.{few_true, members_zeroed, members_few}
use Rattle.verdict.proofs.Spans.{Span, span_uncons, span_split, span_end, span_self, first_found, body_one, body_two}
use Rattle.verdict.proofs.Sames.{same_refl}
use Rattle.verdict.proofs.SoundModules.{shape_byte, signatures_push, verdict_sound}
use Rattle.verdict.proofs.Complete.{uses_found, complete}

abbrev shape_of : Row → Shape
shape_of (rows.Array t) = shape.Array
shape_of (rows.Record m) = shape.Record
shape_of (rows.Union m) = shape.Union

shape_found : (k : Shape) → lookup shapes (shape_byte k) ≡ Some k
shape_found shape.Array = refl
shape_found shape.Record = refl
shape_found shape.Union = refl

-- Uses behind their count.
counted_found : (limit : ℕ) (bs : List ℕ) (p : ℕ) (ts xs : List ℕ) (q : ℕ) → Span bs (p + 1) (length ts ∷ (encode_uses ts ++ xs)) q → Few (length ts) → all_below limit ts ≡ true → (r : ℕ) × (counted_uses limit bs p ≡ accepted ts r) × Span bs r xs q
counted_found limit bs p ts xs q s f b =
    let y = body_one bs p (length ts) (encode_uses ts ++ xs) q s in
    let u = uses_found limit bs (p + 2) ts xs q y.2 b in
    let w = few_true (length ts) f in
    (u.0, rw (y.0, y.1, w) u.1, u.2)

-- A row behind its kind byte.
shaped_found : (r : Row) (limit : ℕ) (bs : List ℕ) (p : ℕ) (xs : List ℕ) (q : ℕ) → Span bs p (encode_row r ++ xs) q → all_below limit (uses r) ≡ true → ZeroedRow r → (s : ℕ) × (shaped (shape_of r) limit bs p ≡ accepted r s) × Span bs s xs q
shaped_found (rows.Array t) limit bs p xs q s b z =
    let u = span_uncons s in
    let v = uses_found limit bs (p + 1) (t ∷ []) xs q u.2 b in
    (v.0, ap (λ o. after o (λ ts q. accepted (rows.Array (get_or ts 0 0)) q)) v.1, v.2)
shaped_found (rows.Record m) limit bs p xs q s b z =
    let u = span_uncons s in
    let v = counted_found limit bs p (used m) xs q u.2 (members_few m) b in
    (v.0, ap (λ o. after o (λ ts q. accepted (rows.Record (members_of ts)) q)) v.1 ∙ ap (λ n. accepted (rows.Record n) v.0) (members_zeroed m z), v.2)
shaped_found (rows.Union m) limit bs p xs q s b z =
    let u = span_uncons s in
    let v = counted_found limit bs p (used m) xs q u.2 (members_few m) b in
    (v.0, ap (λ o. after o (λ ts q. accepted (rows.Union (members_of ts)) q)) v.1 ∙ ap (λ n. accepted (rows.Union n) v.0) (members_zeroed m z), v.2)

row_begins : (r : Row) (bs : List ℕ) (p : ℕ) (xs : List ℕ) (q : ℕ) → Span bs p (encode_row r ++ xs) q → (p < length bs) × (get_or bs p 0 ≡ shape_byte (shape_of r))
row_begins (rows.Array t) bs p xs q s = (s.stands.0, s.stands.1)
row_begins (rows.Record m) bs p xs q s = (s.stands.0, s.stands.1)
row_begins (rows.Union m) bs p xs q s = (s.stands.0, s.stands.1)

row_found : (r : Row) (bs : List ℕ) (before : List Row) (p : ℕ) (xs : List ℕ) (q : ℕ) → Span bs p (encode_row r ++ xs) q → RowFits before r → (s : ℕ) × (row_at bs before p ≡ accepted r s) × Span bs s xs q
row_found r bs before p xs q s f =
    let b = row_begins r bs p xs q s in
    let x = first_found bs p (shape_byte (shape_of r)) b.0 b.1 in
    let k = shape_found (shape_of r) in
    let y = shaped_found r (length before + 2) bs p xs q s f.lower f.zeroed in
    let n = not_from_false _ f.new in
    (y.0, rw (x, k, y.1, n), y.2)

rows_found : (rs : List Row) (bs : List ℕ) (before : List Row) (p : ℕ) (xs : List ℕ) (q : ℕ) → Span bs p (encode_rows rs ++ xs) q → RowsFit before rs → (s : ℕ) × (rows_at (length rs) bs before p ≡ accepted (before ++ rs) s) × Span bs s xs q
unfolding rows_at encode_rows RowsFit
rows_found [] bs before p xs q s f = (p, ap (λ z. accepted z p) (sym (append-nil before)), s)
rows_found (r ∷ rs) bs before p xs q s f =
    let x = row_found r bs before p (encode_rows rs ++ xs) q (subst (λ z. Span bs p z q) (append_assoc (encode_row r) (encode_rows rs) xs) s) f.0 in
    let y = rows_found rs bs (before ++ r ∷ []) x.0 xs q x.2 f.1 in
    (y.0, ap (λ o. after o (λ a b. rows_at (length rs) bs (before ++ a ∷ []) b)) x.1 ∙ (y.1 ∙ ap (λ z. accepted z y.0) (append_assoc before (r ∷ []) rs)), y.2)

function_runs : (C : Context) (bs : List ℕ) (p : ℕ) (ps rs : List ℕ) (e : Expr) (r s q : ℕ) → first_at bs p ≡ accepted 0x20 (p + 1) → whole 2 bs p ≡ accepted tt (p + 3) → body bs p 1 ≡ length ps → body bs p 2 ≡ length rs → few (length ps) ≡ true → few (length rs) ≡ true → uses_at (length ps) (length C.rows + 2) bs (p + 3) ≡ accepted ps r → uses_at (length rs) (length C.rows + 2) bs r ≡ accepted rs s → expr C 100 bs ps s ≡ accepted (typed e rs) q → function_at C bs p ≡ accepted (record { parameters = ps; results = rs; body = e }) q
function_runs C bs p ps rs e r s q k w b1 b2 c1 c2 v u x = let g = same_refl rs in rw (k, w, b1, b2, c1, c2, v, u, x, g)

module_runs : (bs : List ℕ) (rs : List Row) (fs : List Function) (r s : ℕ) → first_at bs 0 ≡ accepted 0x01 1 → whole 2 bs 0 ≡ accepted tt 3 → body bs 0 1 ≡ length rs → body bs 0 2 ≡ length fs → leb (length rs) 60 ≡ true → leb 1 (length fs) ≡ true → leb (length fs) 60 ≡ true → rows_at (length rs) bs [] 3 ≡ accepted rs r → functions_at (length fs) rs bs [] r ≡ accepted fs s → eqb s (length bs) ≡ true → module_at bs ≡ accepted (record { rows = rs; functions = fs }) s
module_runs bs rs fs r s k w b1 b2 c1 c2 c3 x y g = rw (k, w, b1, b2, c1, c2, c3, x, y, g)

function_found : (C : Context) (f : Function) (bs : List ℕ) (p : ℕ) (xs : List ℕ) (q : ℕ) → Span bs p (encode_function f ++ xs) q → FunctionFits C f → (s : ℕ) × (function_at C bs p ≡ accepted f s) × Span bs s xs q
function_found C f bs p xs q s t =
    let ps = f.parameters in
    let rs = f.results in
    let u = span_uncons s in
    let split : (encode_uses ps ++ (encode_uses rs ++ encode_expr f.body)) ++ xs ≡ encode_uses ps ++ (encode_uses rs ++ (encode_expr f.body ++ xs)) =
    append_assoc (encode_uses ps) (encode_uses rs ++ encode_expr f.body) xs ∙ ap (λ z. encode_uses ps ++ z) (append_assoc (encode_uses rs) (encode_expr f.body) xs) in
    let b = body_two bs p (length ps) (length rs) _ q (subst (λ z. Span bs (p + 1) (length ps ∷ length rs ∷ z) q) split u.2) in
    let v = uses_found (length C.rows + 2) bs (p + 3) ps _ q b.3 t.parameters_declared in
    let w = uses_found (length C.rows + 2) bs v.0 rs _ q v.2 t.results_declared in
    let x = span_split bs w.0 (encode_expr f.body) xs q w.2 in
    let e = complete C bs f.body 100 ps w.0 rs x.0 x.1 t.typed t.shallow in
    let k = first_found bs p 0x20 u.0 u.1 in
    let c1 = few_true (length ps) t.few_parameters in
    let c2 = few_true (length rs) t.few_results in
    (x.0, function_runs C bs p ps rs f.body v.0 w.0 x.0 k b.0 b.1 b.2 c1 c2 v.1 w.1 e, x.2)

functions_found : (fs : List Function) (rs : List Row) (bs : List ℕ) (before : List Function) (p : ℕ) (xs : List ℕ) (q : ℕ) → Span bs p (encode_functions fs ++ xs) q → FunctionsFit rs (signatures before) fs → (s : ℕ) × (functions_at (length fs) rs bs before p ≡ accepted (before ++ fs) s) × Span bs s xs q
unfolding functions_at encode_functions FunctionsFit
functions_found [] rs bs before p xs q s f = (p, ap (λ z. accepted z p) (sym (append-nil before)), s)
functions_found (f ∷ fs) rs bs before p xs q s t =
    let x = function_found (context rs (signatures before)) f bs p (encode_functions fs ++ xs) q (subst (λ z. Span bs p z q) (append_assoc (encode_function f) (encode_functions fs) xs) s) t.0 in
    let y = functions_found fs rs bs (before ++ f ∷ []) x.0 xs q x.2 (subst (λ z. FunctionsFit rs z fs) (sym (signatures_push before f)) t.1) in
    (y.0, ap (λ o. after o (λ a b. functions_at (length fs) rs bs (before ++ a ∷ []) b)) x.1 ∙ (y.1 ∙ ap (λ z. accepted z y.0) (append_assoc before (f ∷ []) fs)), y.2)

module_found : (bs : List ℕ) (m : Module) → bs ≡ encode_module m → WellTyped m → module_at bs ≡ accepted m (length bs)
unfolding encode_module
module_found bs m e t =
    let all : Span (encode_module m) 0 (encode_module m) (length (encode_module m)) = record { stands = span_self [] (encode_module m); next = omega arith } in
    let s : Span bs 0 (encode_module m) (length bs) = subst (λ z. Span z 0 (encode_module m) (length z)) (sym e) all in
    let u = span_uncons s in
    let b = body_two bs 0 (length m.rows) (length m.functions) _ (length bs) u.2 in
    let x = rows_found m.rows bs [] 3 (encode_functions m.functions) (length bs) b.3 t.rows_fit in
    let y = functions_found m.functions m.rows bs [] x.0 [] (length bs) (subst (λ z. Span bs x.0 z (length bs)) (sym (append-nil (encode_functions m.functions))) x.2) t.functions_fit in
    let k = first_found bs 0 0x01 u.0 u.1 in
    let c1 = le-leb (length m.rows) 60 t.few_rows in
    let c2 = le-leb 1 (length m.functions) t.some_functions in
    let c3 = le-leb (length m.functions) 60 t.few_functions in
    let z : y.0 ≡ length bs = span_end bs y.0 (length bs) y.2 in
    let g = eq-eqb y.0 (length bs) z in
    module_runs bs m.rows m.functions x.0 y.0 k b.0 b.1 b.2 c1 c2 c3 x.1 y.1 g ∙ ap (accepted m) z

pub exact : AcceptsExactly
exact bs bytes m = (λ h. (let s = verdict_sound bs bytes m h.0 h.1 in record { fits = s.0; bytes_are = s.1; well = s.2 }), λ h. back h)
  where
    back : Encodes bs m → verdict bs ≡ accepted m (length bs)
    back h = ap (λ b. cond b (module_at bs) (refused Oversize)) (le-leb (length bs) 16384 h.fits) ∙ module_found bs m h.bytes_are h.well
