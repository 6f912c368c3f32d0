-- The bytes of a module. A record is a kind byte, a body, and its parts, which are records.
use Rattle.std.specs.Prelude.{ℕ, ◌+◌, List, [], ◌∷◌, ◌++◌, length}
use Rattle.numbers.specs.Faults.{code_of}
use Rattle.merging.specs.declared.bundle.IntegerMerge.TheVariants as integers
use Rattle.merging.specs.declared.bundle.BooleanMerge.TheVariants as booleans
use Rattle.values.specs.declared.row.Row.{Row}
use Rattle.values.specs.declared.row.Row.TheVariants as rows
use Rattle.values.specs.Rows.{used}
use Rattle.values.specs.Values.{word, bit}
use Rattle.language.specs.declared.operation.Unary.{Unary}
use Rattle.language.specs.declared.operation.Unary.TheVariants.{Negate, Abs, Not, IsFault, IsError, Lowest, Highest, Size}
use Rattle.language.specs.declared.operation.Binary.{Binary}
use Rattle.language.specs.declared.operation.Binary.TheVariants.{Plus, Minus, Times, Divide, Modulo, Max, Min, Equal, Unequal, Less, AtMost, Greater, AtLeast, And, Or}
use Rattle.language.specs.declared.merge.Merge.{Merge}
use Rattle.language.specs.declared.merge.Merge.TheVariants.{Collect, Integers, Booleans}
use Rattle.language.specs.Syntax.{Expr, Exprs, LoopEnd, LoopEnds, Function, Module, list, integer, boolean, error, name, unary, binary, if, let_in, tagcase, for, forall, call, record_of, field, union, array, element, none, ◌then◌, iter, done, if_end, let_end, tagcase_end, no_ends, ◌or◌, count, count_ends}

-- The codes of the operations, 1 to 28.
abbrev pub binary_code : Binary → ℕ
binary_code Plus = 1
binary_code Minus = 2
binary_code Times = 3
binary_code Divide = 4
binary_code Modulo = 5
binary_code Max = 6
binary_code Min = 7
binary_code Equal = 10
binary_code Unequal = 11
binary_code Less = 12
binary_code AtMost = 13
binary_code Greater = 14
binary_code AtLeast = 15
binary_code And = 16
binary_code Or = 17

-- The tests for the six errors have the codes 19 to 24, in the order of the errors' numbers.
abbrev pub unary_code : Unary → ℕ
unary_code Negate = 8
unary_code Abs = 9
unary_code Not = 18
unary_code (IsFault f) = 18 + code_of f
unary_code IsError = 25
unary_code Lowest = 26
unary_code Highest = 27
unary_code Size = 28

-- The number of a merge, and the type byte behind it: the array's row, or 0.
abbrev pub merge_code : Merge → ℕ
merge_code (Collect t) = 0
merge_code (Integers integers.Plus) = 1
merge_code (Integers integers.Times) = 2
merge_code (Integers integers.Max) = 3
merge_code (Integers integers.Min) = 4
merge_code (Booleans booleans.And) = 5
merge_code (Booleans booleans.Or) = 6

abbrev pub merge_type : Merge → ℕ
merge_type (Collect t) = t
merge_type (Integers o) = 0
merge_type (Booleans o) = 0

-- Uses of types, one behind the other.
unfoldable pub encode_uses : List ℕ → List ℕ
encode_uses [] = []
encode_uses (t ∷ ts) = 0x10 ∷ t ∷ encode_uses ts

-- The bytes of an expression, of expressions one behind the other, and of the ends of loops.
unfoldable mutual
  pub encode_expr : Expr → List ℕ
  encode_expr (list es) = 0x30 ∷ count es ∷ encode_all es
  encode_expr (integer n) = 0x31 ∷ word n.value
  encode_expr (boolean b) = 0x32 ∷ bit b ∷ []
  encode_expr (error f t) = 0x33 ∷ code_of f ∷ t ∷ []
  encode_expr (name n) = 0x34 ∷ n ∷ []
  encode_expr (unary op a) = 0x35 ∷ unary_code op ∷ encode_expr a
  encode_expr (binary op a b) = 0x35 ∷ binary_code op ∷ (encode_expr a ++ encode_expr b)
  encode_expr (if test taken other) = 0x36 ∷ (encode_expr test ++ (encode_expr taken ++ encode_expr other))
  encode_expr (let_in definition body) = 0x37 ∷ (encode_expr definition ++ encode_expr body)
  encode_expr (tagcase test arms) = 0x38 ∷ count arms ∷ (encode_expr test ++ encode_all arms)
  encode_expr (for uses initial end) = 0x39 ∷ length uses ∷ (encode_uses uses ++ (encode_expr initial ++ encode_end end))
  encode_expr (forall m low high part) = 0x3B ∷ merge_code m ∷ merge_type m ∷ (encode_expr low ++ (encode_expr high ++ encode_expr part))
  encode_expr (call f a) = 0x3C ∷ f ∷ encode_expr a
  encode_expr (record_of t e) = 0x3D ∷ t ∷ encode_expr e
  encode_expr (field n e) = 0x3E ∷ n ∷ encode_expr e
  encode_expr (union t tag e) = 0x3F ∷ t ∷ tag ∷ encode_expr e
  encode_expr (array t low es) = 0x40 ∷ t ∷ (encode_expr low ++ encode_expr es)
  encode_expr (element a i) = 0x42 ∷ (encode_expr a ++ encode_expr i)

  pub encode_all : Exprs → List ℕ
  encode_all none = []
  encode_all (e then es) = encode_expr e ++ encode_all es

  pub encode_end : LoopEnd → List ℕ
  encode_end (iter e) = 0x3A ∷ encode_expr e
  encode_end (done e) = encode_expr e
  encode_end (if_end test taken other) = 0x36 ∷ (encode_expr test ++ (encode_end taken ++ encode_end other))
  encode_end (let_end definition body) = 0x37 ∷ (encode_expr definition ++ encode_end body)
  encode_end (tagcase_end test arms) = 0x38 ∷ count_ends arms ∷ (encode_expr test ++ encode_ends arms)

  pub encode_ends : LoopEnds → List ℕ
  encode_ends no_ends = []
  encode_ends (l or ls) = encode_end l ++ encode_ends ls

-- The bytes of a row.
abbrev pub encode_row : Row → List ℕ
encode_row (rows.Array t) = 0x12 ∷ encode_uses (t ∷ [])
encode_row (rows.Record m) = 0x13 ∷ length (used m) ∷ encode_uses (used m)
encode_row (rows.Union m) = 0x14 ∷ length (used m) ∷ encode_uses (used m)

unfoldable pub encode_rows : List Row → List ℕ
encode_rows [] = []
encode_rows (r ∷ rs) = encode_row r ++ encode_rows rs

-- The bytes of a function, and of functions one behind the other.
abbrev pub encode_function : Function → List ℕ
encode_function f =
    0x20 ∷ length f.parameters ∷ length f.results
    ∷ (encode_uses f.parameters ++ (encode_uses f.results ++ encode_expr f.body))

unfoldable pub encode_functions : List Function → List ℕ
encode_functions [] = []
encode_functions (f ∷ fs) = encode_function f ++ encode_functions fs

-- The bytes of a module.
unfoldable pub encode_module : Module → List ℕ
encode_module m =
    0x01 ∷ length m.rows ∷ length m.functions ∷ (encode_rows m.rows ++ encode_functions m.functions)
