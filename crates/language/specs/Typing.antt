-- The typing of modules: one clause for each rule.
use Rattle.std.specs.Prelude.{◌≡◌, ℕ, ◌+◌, ◌-◌, ◌<◌, ◌≤◌, max, true, false, List, [], ◌∷◌, ◌++◌, length, replicate, Some}
use Rattle.std.specs.List.{slice_get}
use Rattle.values.specs.declared.members.Members.{Members}
use Rattle.values.specs.declared.row.Row.{Row}
use Rattle.values.specs.declared.row.Row.TheVariants as rows
use Rattle.values.specs.Rows.{used, all_below, uses}
use Rattle.language.specs.Syntax.{Expr, Exprs, LoopEnd, LoopEnds, Function, Module, list, integer, boolean, error, name, unary, binary, if, let_in, tagcase, for, forall, call, record_of, field, union, array, element, none, ◌then◌, iter, done, if_end, let_end, tagcase_end, no_ends, ◌or◌, count}
use Rattle.language.specs.Sorts.{declared, element_of, fields_of, tags_of, has_fault, takes, gives, operand, result_of, part_type, merged_type, has_twin}

-- What a function's callers see: the types of its parameters and of its results.
pub record Signature : Type 0 where
  pub parameters : List ℕ
  pub results : List ℕ

abbrev pub signature : Function → Signature
signature f = record { parameters = f.parameters; results = f.results }

abbrev pub signatures : List Function → List Signature
signatures [] = []
signatures (f ∷ fs) = signature f ∷ signatures fs

-- What an expression stands in, besides its names: the module's rows, and the functions before its own.
pub record Context : Type 0 where
  pub rows : List Row
  pub callees : List Signature

abbrev pub context : List Row → List Signature → Context
context rs ss = record { rows = rs; callees = ss }

-- How many values each function has.
abbrev pub result_counts : List Signature → List ℕ
result_counts [] = []
result_counts (s ∷ ss) = length s.results ∷ result_counts ss

-- One to eight.
pub record Few (n : ℕ) : Type 0 where
  pub some : 1 ≤ n
  pub most : n ≤ 8

-- Each number is the same one.
abbrev pub Every : ℕ → List ℕ → Type 0
Every t [] = Unit {0}
Every t (u ∷ us) = (u ≡ t) × Every t us

-- An expression that is no if, let or tagcase: at the end of a loop these are ends themselves.
abbrev pub Plain : Expr → Type 0
Plain (list es) = Unit {0}
Plain (integer n) = Unit {0}
Plain (boolean b) = Unit {0}
Plain (error f t) = Unit {0}
Plain (name n) = Unit {0}
Plain (unary op a) = Unit {0}
Plain (binary op a b) = Unit {0}
Plain (if test taken other) = ⊥
Plain (let_in definition body) = ⊥
Plain (tagcase test arms) = ⊥
Plain (for ts initial end) = Unit {0}
Plain (forall m low high part) = Unit {0}
Plain (call f a) = Unit {0}
Plain (record_of t e) = Unit {0}
Plain (field n e) = Unit {0}
Plain (union t tag e) = Unit {0}
Plain (array t low es) = Unit {0}
Plain (element a i) = Unit {0}

-- Types C e Γ ts: in the context C, where the names have the types Γ, the values of e have the types ts.
unfoldable mutual
  pub Types : Context → Expr → (names types : List ℕ) → Type 0
  Types C (list es) Γ ts = (2 ≤ count es) × (count es ≤ 8) × MembersTypes C es Γ ts
  Types C (integer n) Γ ts = ts ≡ 1 ∷ []
  Types C (boolean b) Γ ts = ts ≡ 0 ∷ []
  Types C (error f t) Γ ts = (declared C.rows t ≡ true) × (has_fault t f ≡ true) × (ts ≡ t ∷ [])
  Types C (name n) Γ ts = (t : ℕ) × (slice_get Γ n ≡ Some t) × (ts ≡ t ∷ [])
  Types C (unary op a) Γ ts = (t : ℕ) × Types C a Γ (t ∷ []) × (takes C.rows op t ≡ true) × (ts ≡ gives op ∷ [])
  Types C (binary op a b) Γ ts = Types C a Γ (operand op ∷ []) × Types C b Γ (operand op ∷ []) × (ts ≡ result_of op ∷ [])
  Types C (if test taken other) Γ ts = Types C test Γ (0 ∷ []) × Types C taken Γ ts × Types C other Γ ts
  Types C (let_in definition body) Γ ts =
      (us : List ℕ) × Types C definition Γ us × (length Γ + length us ≤ 96) × Types C body (Γ ++ us) ts
  Types C (tagcase test arms) Γ ts =
      (u : ℕ) × (us : List ℕ) × Types C test Γ (u ∷ []) × (tags_of C.rows u ≡ Some us) × (length Γ < 96) × ArmsTypes C arms us Γ ts
  Types C (for ts initial end) Γ vs =
      Few (length ts) × (all_below (length C.rows + 2) ts ≡ true)
      × ((us : List ℕ) × Types C initial Γ us × (length Γ + length us ≤ 96) × EndTypes C end us (Γ ++ us) ts) × (vs ≡ ts)
  Types C (forall m low high part) Γ ts =
      Types C low Γ (1 ∷ []) × Types C high Γ (1 ∷ []) × (length Γ < 96)
      × ((t : ℕ) × Types C part (Γ ++ 1 ∷ []) (t ∷ []) × (part_type C.rows m ≡ Some t)) × (ts ≡ merged_type m ∷ [])
  Types C (call f a) Γ ts = (s : Signature) × (slice_get C.callees f ≡ Some s) × Types C a Γ s.parameters × (ts ≡ s.results)
  Types C (record_of t e) Γ ts = (us : List ℕ) × (fields_of C.rows t ≡ Some us) × Types C e Γ us × (ts ≡ t ∷ [])
  Types C (field n e) Γ ts =
      (t u : ℕ) × (us : List ℕ) × Types C e Γ (t ∷ []) × (fields_of C.rows t ≡ Some us) × (slice_get us n ≡ Some u) × (ts ≡ u ∷ [])
  Types C (union t tag e) Γ ts =
      (us : List ℕ) × (u : ℕ) × (tags_of C.rows t ≡ Some us) × (slice_get us tag ≡ Some u) × Types C e Γ (u ∷ []) × (ts ≡ t ∷ [])
  Types C (array t low es) Γ ts =
      (u : ℕ) × (us : List ℕ) × (element_of C.rows t ≡ Some u) × Types C low Γ (1 ∷ []) × Types C es Γ us × Every u us × (ts ≡ t ∷ [])
  Types C (element a i) Γ ts =
      (t u : ℕ) × Types C a Γ (t ∷ []) × (element_of C.rows t ≡ Some u) × Types C i Γ (1 ∷ []) × (ts ≡ u ∷ [])

  -- The members of a list have one value each.
  pub MembersTypes : Context → Exprs → (names types : List ℕ) → Type 0
  MembersTypes C none Γ ts = ts ≡ []
  MembersTypes C (e then es) Γ ts = (t : ℕ) × (us : List ℕ) × Types C e Γ (t ∷ []) × MembersTypes C es Γ us × (ts ≡ t ∷ us)

  -- An arm for each constituent, which is one more name there; the arms have the same types.
  pub ArmsTypes : Context → Exprs → (constituents names types : List ℕ) → Type 0
  ArmsTypes C none us Γ ts = us ≡ []
  ArmsTypes C (e then es) us Γ ts =
      (u : ℕ) × (rest : List ℕ) × (us ≡ u ∷ rest) × Types C e (Γ ++ u ∷ []) ts × ArmsTypes C es rest Γ ts

  -- The end of a loop whose names have the types `again`, and whose results have the types ts.
  pub EndTypes : Context → LoopEnd → (again names types : List ℕ) → Type 0
  EndTypes C (iter e) again Γ ts = Types C e Γ again
  EndTypes C (done e) again Γ ts = Plain e × Types C e Γ ts
  EndTypes C (if_end test taken other) again Γ ts =
      Types C test Γ (0 ∷ []) × EndTypes C taken again Γ ts × EndTypes C other again Γ ts
  EndTypes C (let_end definition body) again Γ ts =
      (us : List ℕ) × Types C definition Γ us × (length Γ + length us ≤ 96) × EndTypes C body again (Γ ++ us) ts
  EndTypes C (tagcase_end test arms) again Γ ts =
      (u : ℕ) × (us : List ℕ) × Types C test Γ (u ∷ []) × (tags_of C.rows u ≡ Some us) × (length Γ < 96) × EndsTypes C arms us again Γ ts

  pub EndsTypes : Context → LoopEnds → (constituents again names types : List ℕ) → Type 0
  EndsTypes C no_ends us again Γ ts = us ≡ []
  EndsTypes C (l or ls) us again Γ ts =
      (u : ℕ) × (rest : List ℕ) × (us ≡ u ∷ rest) × EndTypes C l again (Γ ++ u ∷ []) ts × EndsTypes C ls rest again Γ ts

-- How many expression records are open at the deepest; ends of loops count too.
unfoldable mutual
  pub depth : Expr → ℕ
  depth (list es) = depth_all es + 1
  depth (integer n) = 1
  depth (boolean b) = 1
  depth (error f t) = 1
  depth (name n) = 1
  depth (unary op a) = depth a + 1
  depth (binary op a b) = max (depth a) (depth b) + 1
  depth (if test taken other) = max (depth test) (max (depth taken) (depth other)) + 1
  depth (let_in definition body) = max (depth definition) (depth body) + 1
  depth (tagcase test arms) = max (depth test) (depth_all arms) + 1
  depth (for ts initial end) = max (depth initial) (depth_end end) + 1
  depth (forall m low high part) = max (depth low) (max (depth high) (depth part)) + 1
  depth (call f a) = depth a + 1
  depth (record_of t e) = depth e + 1
  depth (field n e) = depth e + 1
  depth (union t tag e) = depth e + 1
  depth (array t low es) = max (depth low) (depth es) + 1
  depth (element a i) = max (depth a) (depth i) + 1

  pub depth_all : Exprs → ℕ
  depth_all none = 0
  depth_all (e then es) = max (depth e) (depth_all es)

  pub depth_end : LoopEnd → ℕ
  depth_end (iter e) = depth e + 1
  depth_end (done e) = depth e
  depth_end (if_end test taken other) = max (depth test) (max (depth_end taken) (depth_end other)) + 1
  depth_end (let_end definition body) = max (depth definition) (depth_end body) + 1
  depth_end (tagcase_end test arms) = max (depth test) (depth_ends arms) + 1

  pub depth_ends : LoopEnds → ℕ
  depth_ends no_ends = 0
  depth_ends (l or ls) = max (depth_end l) (depth_ends ls)

-- A row keeps 0 in the places behind its members.
abbrev pub Zeroed : Members → Type 0
Zeroed m = m.numbers ≡ used m ++ replicate (8 - m.count) 0

abbrev pub ZeroedRow : Row → Type 0
ZeroedRow (rows.Array t) = Unit {0}
ZeroedRow (rows.Record m) = Zeroed m
ZeroedRow (rows.Union m) = Zeroed m

-- A row behind others: it uses lower numbers only, and is no twin of one of these.
pub record RowFits (before : List Row) (r : Row) : Type 0 where
  pub lower : all_below (length before + 2) (uses r) ≡ true
  pub new : has_twin before r ≡ false
  pub zeroed : ZeroedRow r

unfoldable pub RowsFit : (before rows : List Row) → Type 0
RowsFit before [] = Unit {0}
RowsFit before (r ∷ rs) = RowFits before r × RowsFit (before ++ r ∷ []) rs

-- A function: one to eight parameters and results, of types that are declared, and a body that has the results' types
-- where the parameters are the names, with at most 100 records open.
pub record FunctionFits (C : Context) (f : Function) : Type 0 where
  pub few_parameters : Few (length f.parameters)
  pub few_results : Few (length f.results)
  pub parameters_declared : all_below (length C.rows + 2) f.parameters ≡ true
  pub results_declared : all_below (length C.rows + 2) f.results ≡ true
  pub typed : Types C f.body f.parameters f.results
  pub shallow : depth f.body ≤ 100

-- Each function calls only those before it.
unfoldable pub FunctionsFit : List Row → (before : List Signature) → List Function → Type 0
FunctionsFit rows before [] = Unit {0}
FunctionsFit rows before (f ∷ fs) = FunctionFits (context rows before) f × FunctionsFit rows (before ++ signature f ∷ []) fs

-- A module within the rules and the limits.
pub record WellTyped (m : Module) : Type 0 where
  pub few_rows : length m.rows ≤ 60
  pub some_functions : 1 ≤ length m.functions
  pub few_functions : length m.functions ≤ 60
  pub rows_fit : RowsFit [] m.rows
  pub functions_fit : FunctionsFit m.rows [] m.functions
