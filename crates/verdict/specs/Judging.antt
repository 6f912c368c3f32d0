-- What is judged after the last part: types and arities, and the names that a record binds.
use Rattle.std.specs.Prelude.{ℕ, ◌+◌, Bool, true, false, ◌&&◌, List, [], ◌∷◌, ◌++◌, length, Some, None, Option, ◌==◌, nat_le, slice_index}
use Rattle.std.specs.List.{slice_get}
use Rattle.values.specs.declared.refusal.Refusal.TheVariants.{Deep, Undeclared, Clash}
use Rattle.language.specs.declared.node.One.{One}
use Rattle.language.specs.declared.node.One.TheVariants as one
use Rattle.language.specs.declared.node.Two.{Two}
use Rattle.language.specs.declared.node.Two.TheVariants as two
use Rattle.language.specs.Syntax.{Expr, Exprs, LoopEnd, LoopEnds, none, ◌then◌, no_ends, ◌or◌}
use Rattle.language.specs.Sorts.{present, element_of, fields_of, tags_of, takes, gives, operand, result_of, same}
use Rattle.language.specs.Typing.{Context, Signature}
use Rattle.verdict.specs.Outcomes.{Out, accepted, after, judged, found}

-- An expression with the types of its values.
pub record Typed : Type 0 where
  pub tree : Expr
  pub types : List ℕ

abbrev pub typed : Expr → List ℕ → Typed
typed e ts = record { tree = e; types = ts }

-- The type of a single value; more values, or none, have no one type.
abbrev pub single : List ℕ → Option ℕ
single [] = None
single (t ∷ []) = Some t
single (t ∷ (u ∷ ts)) = None

-- What the type of a single value has.
abbrev pub at_one : {A : Type 0} → Option ℕ → (ℕ → Option A) → Option A
at_one (Some t) of = of t
at_one None of = None

abbrev pub of_one : {A : Type 0} → (ℕ → Option A) → List ℕ → Option A
of_one of ts = at_one (single ts) of

-- The types are those that are there.
abbrev pub matches : Option (List ℕ) → List ℕ → Bool
matches (Some us) ts = same us ts
matches None ts = false

-- One value, of the type that is there.
abbrev pub is_one : Option ℕ → List ℕ → Bool
is_one (Some u) ts = same (u ∷ []) ts
is_one None ts = false

-- Each value is of the type that is there.
abbrev pub every : ℕ → List ℕ → Bool
every u [] = true
every u (t ∷ ts) = t == u && every u ts

abbrev pub all_of : Option ℕ → List ℕ → Bool
all_of (Some u) ts = every u ts
all_of None ts = false

-- What a function takes and gives.
abbrev pub parameters_in : Option Signature → Option (List ℕ)
parameters_in (Some s) = Some s.parameters
parameters_in None = None

abbrev pub results_in : Option Signature → List ℕ
results_in (Some s) = s.results
results_in None = []

-- The type of the constituent with a tag.
abbrev pub tag_in : Option (List ℕ) → ℕ → Option ℕ
tag_in (Some us) tag = slice_get us tag
tag_in None tag = None

-- The types of the record at p with one part, whose values have the types ts.
abbrev pub judge_one : Context → One → List ℕ → ℕ → ℕ → Out (List ℕ)
judge_one C (one.Unary op) ts p q =
    after (found (Clash p) (single ts) q) λ t q. judged (Clash p) (takes C.rows op t) (gives op ∷ []) q
judge_one C (one.Call f) ts p q = judged (Clash p) (matches (parameters_in (slice_get C.callees f)) ts) (results_in (slice_get C.callees f)) q
judge_one C (one.Record t) ts p q = judged (Clash p) (matches (fields_of C.rows t) ts) (t ∷ []) q
judge_one C (one.Field n) ts p q =
    after (found (Clash p) (of_one (fields_of C.rows) ts) q) λ us q. after (found (Undeclared p) (slice_get us n) q) λ u q. accepted (u ∷ []) q
judge_one C (one.Union t tag) ts p q = judged (Clash p) (is_one (tag_in (tags_of C.rows t) tag) ts) (t ∷ []) q

-- The types of the record at p with two parts, whose values have the types ts and us.
abbrev pub judge_two : Context → Two → List ℕ → List ℕ → ℕ → ℕ → Out (List ℕ)
judge_two C (two.Binary op) ts us p q = judged (Clash p) (same (operand op ∷ []) ts && same (operand op ∷ []) us) (result_of op ∷ []) q
judge_two C (two.Array t) ts us p q = judged (Clash p) (same (1 ∷ []) ts && all_of (element_of C.rows t) us) (t ∷ []) q
judge_two C two.Element ts us p q =
    after (found (Clash p) (of_one (element_of C.rows) ts) q) λ t q. judged (Clash p) (same (1 ∷ []) us) (t ∷ []) q

-- The names, with those of the types us that the record at p binds.
abbrev pub bound : List ℕ → List ℕ → ℕ → ℕ → Out (List ℕ)
bound Γ us p q = judged (Deep p) (nat_le (length Γ + length us) 96) (Γ ++ us) q

-- The constituents' types of the union that a tagcase with so many arms tests.
abbrev pub arms_of : Context → ℕ → List ℕ → ℕ → ℕ → Out (List ℕ)
arms_of C n ts p q =
    after (found (Clash p) (of_one (tags_of C.rows) ts) q) λ us q. judged (Clash p) (n == length us) us q

-- Members of a list: each has one value.
abbrev pub singles : List Typed → Bool
singles [] = true
singles (a ∷ xs) = present (single a.types) && singles xs

abbrev pub firsts : List Typed → List ℕ
firsts [] = []
firsts (a ∷ xs) = slice_index a.types 0 ∷ firsts xs

-- Arms: each has the types of the first.
abbrev pub agree : List ℕ → List Typed → Bool
agree ts [] = true
agree ts (a ∷ xs) = same ts a.types && agree ts xs

abbrev pub first_types : List Typed → List ℕ
first_types [] = []
first_types (a ∷ xs) = a.types

-- The trees of expressions, and of ends of loops.
abbrev pub trees : List Typed → Exprs
trees [] = none
trees (a ∷ xs) = a.tree then trees xs

abbrev pub ends : List LoopEnd → LoopEnds
ends [] = no_ends
ends (l ∷ ls) = l or ends ls
