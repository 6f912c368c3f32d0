-- What a reading function answers, next to the verdict.
use Rattle.std.specs.Prelude.{◌≡◌, ℕ, zero, suc, ◌+◌, ◌<◌, ◌≤◌, true, ◌&&◌, ◌⊎◌, List, [], ◌∷◌, ◌++◌, map, length, Some, None, Ok, Err, vec_items, Option, Result, nat_le}
use Rattle.values.specs.declared.members.Members.{Members}
use Rattle.values.specs.Rows.{used}
use Rattle.verdict.specs.declared.kinds.Head.{Head}
use Rattle.verdict.specs.declared.kinds.Head.TheVariants as head
use Rattle.verdict.specs.Outcomes.{Out, accepted, refused, after, judged, whole, body}
use Rattle.verdict.specs.Bodies.{members_of}
use Rattle.verdict.specs.Judging.{Typed, typed, agree, first_types, trees, ends}
use Rattle.values.specs.declared.row.Row.{Row}
use Rattle.values.specs.declared.refusal.Refusal.{Refusal}
use Rattle.values.specs.declared.refusal.Refusal.TheVariants.{Strange, Clash, Memory}
use Rattle.language.specs.declared.node.Kind.{Kind}
use Rattle.language.specs.declared.node.Node.{Node}
use Rattle.language.specs.Syntax.{Expr, LoopEnd, Function, Module, arity, arity_first}
use Rattle.language.specs.Sorts.{same}
use Rattle.language.specs.Tables.{node, flat, flat_all, flat_end, flat_ends, entry, said, entries, nodes_of, TablesOf}
use Rattle.language.specs.declared.function.Function as code
use Rattle.module_check.specs.declared.scope.Scope.{Scope}
use Rattle.module_check.specs.Views.{names, kind_of, end_kind_of}
use Rattle.module_check.specs.declared.reader.Reader.{Reader}

-- What a refusal says of the verdict: it is the verdict's, or want of memory, which says nothing.
abbrev pub Declines : {A : Type 0} → Out A → Refusal → Type 0
Declines o e = (e ≡ Memory) ⊎ (o ≡ refused e)

-- The answer is the verdict's, and reading goes on from there.
abbrev pub Plain : {A : Type 0} → Out A → ℕ → Result A Refusal → Type 0
Plain o next (Ok a) = o ≡ accepted a next
Plain o next (Err e) = Declines o e

-- What is judged where the last part ends, wherever that is.
abbrev pub Judged : (ℕ → Out (List ℕ)) → Result Members Refusal → Type 0
Judged o (Ok m) = (next : ℕ) → o next ≡ accepted (used m) next
Judged o (Err e) = (next : ℕ) → Declines (o next) e

-- Uses fill members whose other places are 0.
abbrev pub UsesRead : Out (List ℕ) → ℕ → Result Members Refusal → Type 0
UsesRead o next (Ok m) = (o ≡ accepted (used m) next) × (m ≡ members_of (used m))
UsesRead o next (Err e) = Declines o e

-- Reading goes forward, past the first byte where it succeeds.
abbrev pub Forward : {A : Type 0} → ℕ → ℕ → Result A Refusal → Type 0
Forward before behind (Ok a) = before < behind
Forward before behind (Err e) = before ≤ behind

-- So many bytes of the body of the record at p, from the i-th on.
abbrev pub body_from : ℕ → List ℕ → ℕ → ℕ → List ℕ
body_from zero bs p i = []
body_from (suc n) bs p i = body bs p i ∷ body_from n bs p (i + 1)

-- A body of n bytes was read: it is whole, and reading goes on behind it.
abbrev pub BodyRead : ℕ → List ℕ → ℕ → ℕ → Result (List ℕ) Refusal → Type 0
BodyRead n bs p next (Ok xs) = (whole n bs p ≡ accepted tt next) × (xs ≡ body_from n bs p 1) × (p < next)
BodyRead n bs p next (Err e) = Declines (whole n bs p) e × (p ≤ next)

-- The answer is the verdict's, and reading goes on from there, past the first byte; nothing was noted.
pub record Taken {A : Type 0} (o : Out A) (old new : Reader) (r : Result A Refusal) : Type 0 where
  pub kept : new.nodes ≡ old.nodes
  pub forward : Forward old.at new.at r
  pub reads : Plain o new.at r

-- A count as the body of a record: no less than this, and eight at most.
abbrev pub counted_at : ℕ → List ℕ → ℕ → Out ℕ
counted_at least bs p = after (whole 1 bs p) λ _ q. judged (Strange p) (nat_le least (body bs p 1) && nat_le (body bs p 1) 8) (body bs p 1) q

-- The members of a row, where there are any.
abbrev pub Listed : Option (List ℕ) → Option Members → Type 0
Listed o (Some m) = o ≡ Some (used m)
Listed o None = o ≡ None

-- A list has two to eight members.
abbrev pub Fit : Head → Type 0
Fit (head.Leaf l t) = Unit {0}
Fit (head.One o) = Unit {0}
Fit (head.Two o) = Unit {0}
Fit (head.List n) = (2 ≤ n) × (n ≤ 8)
Fit head.If = Unit {0}
Fit head.Let = Unit {0}
Fit (head.Tagcase n) = Unit {0}
Fit (head.For m) = Unit {0}
Fit (head.Forall m t) = Unit {0}
Fit head.Iter = Unit {0}

-- A record was noted with its kind and span still open.
abbrev pub Opened : List Node → List Node → Result ℕ Refusal → Type 0
Opened before behind (Ok here) =
    (here ≡ length before) × ((k : Kind) × (behind ≡ before ++ record { kind = k; span = 0 } ∷ []))
Opened before behind (Err e) = e ≡ Memory

-- The scope with the names that a record binds, the same.
abbrev pub Extended : (ℕ → Out (List ℕ)) → Result Scope Refusal → Type 0
Extended o (Ok s) = (next : ℕ) → o next ≡ accepted (names s) next
Extended o (Err e) = (next : ℕ) → Declines (o next) e

-- Reading went forward, and from one reader to the other the notes and the place changed as P says.
pub record GoesOn {A : Type 0} (P : List Node → List Node → ℕ → Result A Refusal → Type 0) (old new : Reader) (r : Result A Refusal) : Type 0 where
  pub later : old.at ≤ new.at
  pub reads : P (vec_items old.nodes) (vec_items new.nodes) new.at r

-- An expression was read: the verdict has its tree and types, and its records are noted behind the others.
abbrev pub ExprRead : List ℕ → Out Typed → List Node → List Node → ℕ → Result Members Refusal → Type 0
ExprRead counts o before behind next (Ok m) =
    (e : Expr) × (o ≡ accepted (typed e (used m)) next) × (behind ≡ before ++ flat counts e) × (arity counts e ≡ length (used m))
ExprRead counts o before behind next (Err e) = Declines o e

-- The same below a record's own node.
abbrev pub PartsRead : List ℕ → Head → Out Typed → List Node → List Node → ℕ → Result Members Refusal → Type 0
PartsRead counts h o before behind next (Ok m) =
    (e : Expr) × (below : List Node) × (o ≡ accepted (typed e (used m)) next) × (flat counts e ≡ node (kind_of h (used m)) below)
    × (behind ≡ before ++ below) × (arity counts e ≡ length (used m))
PartsRead counts h o before behind next (Err e) = Declines o e

-- Arms that agree.
abbrev pub ArmsRead : List ℕ → ℕ → ℕ → Out (List Typed) → List Node → List Node → ℕ → Result Members Refusal → Type 0
ArmsRead counts start n o before behind next (Ok m) =
    (xs : List Typed) × (o ≡ accepted xs next) × (agree (first_types xs) xs ≡ true) × (first_types xs ≡ used m)
    × (behind ≡ before ++ flat_all counts (trees xs)) × (length xs ≡ n) × (arity_first counts (trees xs) ≡ length (used m))
ArmsRead counts start n o before behind next (Err e) =
    Declines (after o (λ xs q. judged (Clash start) (agree (first_types xs) xs) xs q)) e

-- An expression of the types that are asked for was read; the record at start is at fault where it has others.
abbrev pub AskedRead : List ℕ → List ℕ → ℕ → Out Typed → List Node → List Node → ℕ → Result Unit Refusal → Type 0
AskedRead counts asked start o before behind next (Ok _) =
    (e : Expr) × (o ≡ accepted (typed e asked) next) × (behind ≡ before ++ flat counts e)
AskedRead counts asked start o before behind next (Err e) = Declines (after o (λ a q. judged (Clash start) (same asked a.types) a q)) e

-- The end of a loop with so many results.
abbrev pub EndRead : List ℕ → ℕ → Out LoopEnd → List Node → List Node → ℕ → Result Unit Refusal → Type 0
EndRead counts n o before behind next (Ok _) = (l : LoopEnd) × (o ≡ accepted l next) × (behind ≡ before ++ flat_end counts n l)
EndRead counts n o before behind next (Err e) = Declines o e

abbrev pub EndPartsRead : List ℕ → List ℕ → Head → Out LoopEnd → List Node → List Node → ℕ → Result Unit Refusal → Type 0
EndPartsRead counts ts h o before behind next (Ok _) =
    (l : LoopEnd) × (below : List Node) × (o ≡ accepted l next) × (flat_end counts (length ts) l ≡ node (end_kind_of h ts) below)
    × (behind ≡ before ++ below)
EndPartsRead counts ts h o before behind next (Err e) = Declines o e

abbrev pub EndsRead : List ℕ → ℕ → ℕ → Out (List LoopEnd) → List Node → List Node → ℕ → Result Unit Refusal → Type 0
EndsRead counts n k o before behind next (Ok _) =
    (ls : List LoopEnd) × (o ≡ accepted ls next) × (behind ≡ before ++ flat_ends counts n (ends ls)) × (length ls ≡ k)
EndsRead counts n k o before behind next (Err e) = Declines o e

-- Rows were added to the table.
abbrev pub RowsRead : Out (List Row) → List Row → ℕ → Result Unit Refusal → Type 0
RowsRead o rows next (Ok _) = o ≡ accepted rows next
RowsRead o rows next (Err e) = Declines o e

-- A function was read: the table says what it says, and its body's records are noted behind the others.
abbrev pub FunctionRead : List ℕ → Out Function → List Node → List Node → ℕ → Result code.Function Refusal → Type 0
FunctionRead counts o before behind next (Ok f) =
    (g : Function) × (o ≡ accepted g next) × (said f ≡ entry g.parameters g.results (length before))
    × (behind ≡ before ++ flat counts g.body)
FunctionRead counts o before behind next (Err e) = Declines o e

-- Functions were read from the first on: the tables are theirs.
abbrev pub FunctionsRead : Out (List Function) → List code.Function → List Node → ℕ → Result Unit Refusal → Type 0
FunctionsRead o fs nodes next (Ok _) =
    (gs : List Function) × (o ≡ accepted gs next) × (map said fs ≡ entries [] 0 gs) × (nodes ≡ nodes_of [] gs)
FunctionsRead o fs nodes next (Err e) = Declines o e

-- A module was read.
abbrev pub ModuleRead : Out Module → List Row → List code.Function → List Node → Result Unit Refusal → Type 0
ModuleRead o rows fs nodes (Ok _) = (m : Module) × (next : ℕ) × (o ≡ accepted m next) × TablesOf m rows fs nodes
ModuleRead o rows fs nodes (Err e) = Declines o e
