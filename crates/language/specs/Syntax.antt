-- A module as a tree: what its records say, and nothing that is worked out from them.
use Rattle.std.specs.Prelude.{ℕ, ◌+◌, Bool, List, length, slice_index_or}
use Rattle.numbers.specs.declared.number.Number.{Number}
use Rattle.numbers.specs.declared.fault.Fault.{Fault}
use Rattle.values.specs.declared.row.Row.{Row}
use Rattle.language.specs.declared.operation.Unary.{Unary}
use Rattle.language.specs.declared.operation.Binary.{Binary}
use Rattle.language.specs.declared.merge.Merge.{Merge}

-- Expressions, and the ends of loops. Types are numbers: 0 boolean, 1 integer, rows from 2. Names count from a function's
-- first parameter, functions, fields and tags from 0.
mutual
  pub data Expr : Type 0 where
    list : (members : Exprs) → Expr
    integer : Number → Expr
    boolean : Bool → Expr
    error : Fault → (type : ℕ) → Expr
    name : ℕ → Expr
    unary : Unary → Expr → Expr
    binary : Binary → Expr → Expr → Expr
    if : (test taken other : Expr) → Expr
    let_in : (definition body : Expr) → Expr
    tagcase : (test : Expr) → (arms : Exprs) → Expr
    for : (uses : List ℕ) → (initial : Expr) → LoopEnd → Expr
    forall : Merge → (low high part : Expr) → Expr
    call : (function : ℕ) → (arguments : Expr) → Expr
    record_of : (type : ℕ) → (values : Expr) → Expr
    field : ℕ → Expr → Expr
    union : (type tag : ℕ) → (constituent : Expr) → Expr
    array : (type : ℕ) → (low elements : Expr) → Expr
    element : (array index : Expr) → Expr

  -- The members of a list, and the arms of a tagcase in the order of the tags.
  pub data Exprs : Type 0 where
    none : Exprs
    ◌then◌ : Expr → Exprs → Exprs

  -- The end of a loop: the next turn's values, an expression with the loop's results (no if, let or tagcase), or one of
  -- these three over ends.
  pub data LoopEnd : Type 0 where
    iter : (next : Expr) → LoopEnd
    done : (results : Expr) → LoopEnd
    if_end : (test : Expr) → (taken other : LoopEnd) → LoopEnd
    let_end : (definition : Expr) → (body : LoopEnd) → LoopEnd
    tagcase_end : (test : Expr) → (arms : LoopEnds) → LoopEnd

  pub data LoopEnds : Type 0 where
    no_ends : LoopEnds
    ◌or◌ : LoopEnd → LoopEnds → LoopEnds

infixr 50 ◌then◌
infixr 50 ◌or◌
-- A function: the types of its parameters and of its results, and its body.
pub record Function : Type 0 where
  pub parameters : List ℕ
  pub results : List ℕ
  pub body : Expr

-- A module: its rows, the first with the type number 2, and its functions.
pub record Module : Type 0 where
  pub rows : List Row
  pub functions : List Function

-- How many members or arms there are.
abbrev pub count : Exprs → ℕ
count none = 0
count (e then es) = count es + 1

abbrev pub count_ends : LoopEnds → ℕ
count_ends no_ends = 0
count_ends (l or ls) = count_ends ls + 1

-- How many values an expression has, where `counts` are the numbers of results of the functions.
unfoldable mutual
  pub arity : (counts : List ℕ) → Expr → ℕ
  arity counts (list es) = count es
  arity counts (integer n) = 1
  arity counts (boolean b) = 1
  arity counts (error f t) = 1
  arity counts (name n) = 1
  arity counts (unary op a) = 1
  arity counts (binary op a b) = 1
  arity counts (if test taken other) = arity counts taken
  arity counts (let_in definition body) = arity counts body
  arity counts (tagcase test arms) = arity_first counts arms
  arity counts (for uses initial end) = length uses
  arity counts (forall m low high part) = 1
  arity counts (call f a) = slice_index_or counts f 1
  arity counts (record_of t e) = 1
  arity counts (field n e) = 1
  arity counts (union t tag e) = 1
  arity counts (array t low es) = 1
  arity counts (element a i) = 1

  -- That of the first arm.
  pub arity_first : (counts : List ℕ) → Exprs → ℕ
  arity_first counts none = 1
  arity_first counts (e then es) = arity counts e
