-- The verdict on a module.
use Rattle.std.specs.Prelude.{ℕ, zero, suc, ◌+◌, cond, not, ◌&&◌, List, [], ◌∷◌, ◌++◌, length, ◌==◌, nat_le, slice_index}
use Rattle.values.specs.declared.row.Row.{Row}
use Rattle.values.specs.declared.row.Row.TheVariants as rows
use Rattle.values.specs.declared.refusal.Refusal.TheVariants.{Cut, Strange, Twin, Clash, Oversize}
use Rattle.language.specs.Syntax.{Function, Module}
use Rattle.language.specs.Sorts.{same, has_twin}
use Rattle.language.specs.Typing.{Context, context, signatures}
use Rattle.verdict.specs.declared.kinds.Shape.{Shape}
use Rattle.verdict.specs.declared.kinds.Shape.TheVariants as shape
use Rattle.verdict.specs.Outcomes.{Out, accepted, refused, after, judged, passes, found, first_at, whole, body, lookup}
use Rattle.verdict.specs.Bodies.{few, uses_at, members_of}
use Rattle.verdict.specs.Expressions.{expr}

abbrev pub shapes : List (ℕ × Shape)
shapes = (0x12, shape.Array) ∷ (0x13, shape.Record) ∷ (0x14, shape.Union) ∷ []

-- One to eight uses of types below a limit, counted by the body of the record at p.
abbrev pub counted_uses : ℕ → List ℕ → ℕ → Out (List ℕ)
counted_uses limit bs p =
    after (whole 1 bs p) λ _ q. after (passes (Strange p) (few (body bs p 1)) q) λ _ q. uses_at (body bs p 1) limit bs q

abbrev pub shaped : Shape → ℕ → List ℕ → ℕ → Out Row
shaped shape.Array limit bs p = after (uses_at 1 limit bs (p + 1)) λ ts q. accepted (rows.Array (slice_index ts 0)) q
shaped shape.Record limit bs p = after (counted_uses limit bs p) λ ts q. accepted (rows.Record (members_of ts)) q
shaped shape.Union limit bs p = after (counted_uses limit bs p) λ ts q. accepted (rows.Union (members_of ts)) q

-- A row behind others.
abbrev pub row_at : List ℕ → List Row → ℕ → Out Row
row_at bs before p =
    after (first_at bs p) λ b q. after (found (Strange p) (lookup shapes b) q) λ k _.
    after (shaped k (length before + 2) bs p) λ r q. judged (Twin p) (not (has_twin before r)) r q

unfoldable pub rows_at : ℕ → List ℕ → List Row → ℕ → Out (List Row)
rows_at zero bs before p = accepted before p
rows_at (suc n) bs before p = after (row_at bs before p) λ r q. rows_at n bs (before ++ r ∷ []) q

-- A function behind others: its body is read under its parameters, and has its results' types.
abbrev pub function_at : Context → List ℕ → ℕ → Out Function
function_at C bs p =
    after (first_at bs p) λ b q. after (passes (Strange p) (b == 0x20) q) λ _ _.
    after (whole 2 bs p) λ _ q. after (passes (Strange p) (few (body bs p 1) && few (body bs p 2)) q) λ _ q.
    after (uses_at (body bs p 1) (length C.rows + 2) bs q) λ ps r.
    after (uses_at (body bs p 2) (length C.rows + 2) bs r) λ rs s.
    after (expr C 100 bs ps s) λ a u.
    judged (Clash p) (same rs a.types) (record { parameters = ps; results = rs; body = a.tree }) u

unfoldable pub functions_at : ℕ → List Row → List ℕ → List Function → ℕ → Out (List Function)
functions_at zero rs bs before p = accepted before p
functions_at (suc n) rs bs before p =
    after (function_at (context rs (signatures before)) bs p) λ f q. functions_at n rs bs (before ++ f ∷ []) q

-- A module, and nothing behind it.
abbrev pub module_at : List ℕ → Out Module
module_at bs =
    after (first_at bs 0) λ b q. after (passes (Strange 0) (b == 0x01) q) λ _ _.
    after (whole 2 bs 0) λ _ q. after (passes (Strange 0) (nat_le (body bs 0 1) 60) q) λ _ q.
    after (passes (Strange 0) (nat_le 1 (body bs 0 2) && nat_le (body bs 0 2) 60) q) λ _ q.
    after (rows_at (body bs 0 1) bs [] q) λ rs r. after (functions_at (body bs 0 2) rs bs [] r) λ fs s.
    judged (Cut s) (s == length bs) (record { rows = rs; functions = fs }) s

-- The verdict: at most 16384 bytes are read at all.
abbrev pub verdict : List ℕ → Out Module
verdict bs = cond (nat_le (length bs) 16384) (module_at bs) (refused Oversize)
