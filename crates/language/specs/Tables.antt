-- A module as tables: the records of its bodies in the order of the bytes, each with its span.
use Rattle.std.specs.Prelude.{◌≡◌, ℕ, ◌+◌, ◌⊎◌, List, [], ◌∷◌, ◌++◌, map, length, Some, None, Option}
use Rattle.std.specs.List.{slice_get}
use Rattle.values.specs.declared.members.Members.{Members}
use Rattle.values.specs.declared.row.Row.{Row}
use Rattle.values.specs.Rows.{used}
use Rattle.language.specs.declared.node.Leaf.TheVariants as leaf
use Rattle.language.specs.declared.node.One.TheVariants as one
use Rattle.language.specs.declared.node.Two.TheVariants as two
use Rattle.language.specs.declared.node.Block.TheVariants as block
use Rattle.language.specs.declared.node.End.TheVariants as end
use Rattle.language.specs.declared.node.Kind.{Kind}
use Rattle.language.specs.declared.node.Kind.TheVariants as kind
use Rattle.language.specs.declared.node.Node.{Node}
use Rattle.language.specs.declared.function.Function as code
use Rattle.language.specs.Syntax.{Expr, Exprs, LoopEnd, LoopEnds, Function, Module, list, integer, boolean, error, name, unary, binary, if, let_in, tagcase, for, forall, call, record_of, field, union, array, element, none, ◌then◌, iter, done, if_end, let_end, tagcase_end, no_ends, ◌or◌, count, count_ends, arity, arity_first}
use Rattle.language.specs.Typing.{WellTyped}

-- A record and those of its parts.
abbrev pub node : Kind → List Node → List Node
node k below = record { kind = k; span = length below + 1 } ∷ below

-- The records of an expression, where `counts` are the numbers of results of the functions, and of the end of a loop
-- with so many results.
unfoldable mutual
  pub flat : (counts : List ℕ) → Expr → List Node
  flat counts (list es) = node (kind.Block (block.List (count es))) (flat_all counts es)
  flat counts (integer n) = node (kind.Leaf (leaf.Integer n)) []
  flat counts (boolean b) = node (kind.Leaf (leaf.Boolean b)) []
  flat counts (error f t) = node (kind.Leaf (leaf.Error f t)) []
  flat counts (name n) = node (kind.Leaf (leaf.Name n)) []
  flat counts (unary op a) = node (kind.One (one.Unary op)) (flat counts a)
  flat counts (binary op a b) = node (kind.Two (two.Binary op)) (flat counts a ++ flat counts b)
  flat counts (if test taken other) = node (kind.Block (block.If (arity counts taken))) (flat counts test ++ (flat counts taken ++ flat counts other))
  flat counts (let_in definition body) = node (kind.Block block.Let) (flat counts definition ++ flat counts body)
  flat counts (tagcase test arms) = node (kind.Block (block.Tagcase (count arms) (arity_first counts arms))) (flat counts test ++ flat_all counts arms)
  flat counts (for ts initial l) = node (kind.Block (block.For (length ts))) (flat counts initial ++ flat_end counts (length ts) l)
  flat counts (forall m low high part) = node (kind.Block (block.Forall m)) (flat counts low ++ (flat counts high ++ flat counts part))
  flat counts (call f a) = node (kind.One (one.Call f)) (flat counts a)
  flat counts (record_of t e) = node (kind.One (one.Record t)) (flat counts e)
  flat counts (field n e) = node (kind.One (one.Field n)) (flat counts e)
  flat counts (union t tag e) = node (kind.One (one.Union t tag)) (flat counts e)
  flat counts (array t low es) = node (kind.Two (two.Array t)) (flat counts low ++ flat counts es)
  flat counts (element a i) = node (kind.Two two.Element) (flat counts a ++ flat counts i)

  pub flat_all : (counts : List ℕ) → Exprs → List Node
  flat_all counts none = []
  flat_all counts (e then es) = flat counts e ++ flat_all counts es

  pub flat_end : (counts : List ℕ) → (results : ℕ) → LoopEnd → List Node
  flat_end counts n (iter e) = node (kind.End end.Iter) (flat counts e)
  flat_end counts n (done e) = flat counts e
  flat_end counts n (if_end test taken other) = node (kind.End (end.If n)) (flat counts test ++ (flat_end counts n taken ++ flat_end counts n other))
  flat_end counts n (let_end definition body) = node (kind.End end.Let) (flat counts definition ++ flat_end counts n body)
  flat_end counts n (tagcase_end test arms) = node (kind.End (end.Tagcase (count_ends arms) n)) (flat counts test ++ flat_ends counts n arms)

  pub flat_ends : (counts : List ℕ) → (results : ℕ) → LoopEnds → List Node
  flat_ends counts n no_ends = []
  flat_ends counts n (l or ls) = flat_end counts n l ++ flat_ends counts n ls

-- What the table of functions says of one.
pub record Entry : Type 0 where
  pub parameters : List ℕ
  pub results : List ℕ
  pub first : ℕ

abbrev pub entry : List ℕ → List ℕ → ℕ → Entry
entry ps rs at = record { parameters = ps; results = rs; first = at }

abbrev pub said : code.Function → Entry
said f = entry (used f.parameters) (used f.results) f.first

-- The tables of functions, where `counts` are the numbers of results of those before, and `at` that of their records.
unfoldable pub entries : (counts : List ℕ) → (at : ℕ) → List Function → List Entry
entries counts at [] = []
entries counts at (f ∷ fs) =
    entry f.parameters f.results at
    ∷ entries (counts ++ length f.results ∷ []) (at + length (flat counts f.body)) fs

unfoldable pub nodes_of : (counts : List ℕ) → List Function → List Node
nodes_of counts [] = []
nodes_of counts (f ∷ fs) = flat counts f.body ++ nodes_of (counts ++ length f.results ∷ []) fs

-- The tables are those of a module.
pub record TablesOf (m : Module) (rows : List Row) (functions : List code.Function) (nodes : List Node) : Type 0 where
  pub rows_are : rows ≡ m.rows
  pub functions_are : map said functions ≡ entries [] 0 m.functions
  pub nodes_are : nodes ≡ nodes_of [] m.functions

-- What a holder has: nothing, or the tables of a well-typed module.
pub record Nothing (rows : List Row) (functions : List code.Function) (nodes : List Node) : Type 0 where
  pub no_rows : rows ≡ []
  pub no_functions : functions ≡ []
  pub no_nodes : nodes ≡ []

abbrev pub Held : List Row → List code.Function → List Node → Type 0
Held rows functions nodes =
    Nothing rows functions nodes ⊎ ((m : Module) × WellTyped m × TablesOf m rows functions nodes)

-- The types of a function's parameters and results, if there is such a function.
abbrev pub parameters_in : Option code.Function → Option Members
parameters_in (Some f) = Some f.parameters
parameters_in None = None

abbrev pub results_in : Option code.Function → Option Members
results_in (Some f) = Some f.results
results_in None = None

abbrev pub parameters_of : List code.Function → ℕ → Option Members
parameters_of fs n = parameters_in (slice_get fs n)

abbrev pub results_of : List code.Function → ℕ → Option Members
results_of fs n = results_in (slice_get fs n)
