-- Small runs, worked out.
use Rattle.std.specs.Prelude.{◌≡◌, ℕ, List, [], ◌∷◌, pos}
use Rattle.std.proofs.Common.{arith}
use Rattle.std.proofs.lemmas.Int.{ints}
use Rattle.numbers.specs.declared.number.Number.{Number}
use Rattle.numbers.specs.declared.fault.Fault.TheVariants.{Undef}
use Rattle.merging.specs.declared.bundle.IntegerMerge.TheVariants as integer_merges
use Rattle.merging.specs.Bundles.{Merges}
use Rattle.values.specs.Values.{Value, row, integer_value}
use Rattle.language.specs.declared.operation.Binary.TheVariants.{Plus, Minus, AtMost}
use Rattle.language.specs.declared.merge.Merge.TheVariants.{Collect, Integers}
use Rattle.language.specs.Syntax.{Expr, Exprs, LoopEnd, Function, Module}
use Rattle.language.specs.Encoding.{encode_module}
use Rattle.meaning.specs.Operations.{undef}
use Rattle.meaning.specs.Outcomes.{Outcome, finished, spent, full}
use Rattle.meaning.specs.Evaluation.{Merging, one, run}
use Rattle.meaning.specs.Runs.{merged}

abbrev pub nought : Number
nought = record { value = pos 0; proper = (omega (arith, ints), omega (arith, ints)) }

abbrev pub two : Number
two = record { value = pos 2; proper = (omega (arith, ints), omega (arith, ints)) }

abbrev pub three : Number
three = record { value = pos 3; proper = (omega (arith, ints), omega (arith, ints)) }

-- M.
abbrev pub most : Number
most = record { value = pos 2147483647; proper = (omega (arith, ints), omega (arith, ints)) }

-- A function with an integer parameter, which has the name 0, and one result.
abbrev pub function_of : (result : ℕ) → Expr → Function
function_of t e = record { parameters = 1 ∷ []; results = t ∷ []; body = e }

-- A run of such a function on a number.
abbrev pub ran_on : Merging → Number → (result : ℕ) → Expr → (free budget : ℕ) → Outcome (List Value)
ran_on merge n t e free budget = run merge (function_of t e ∷ []) 0 (Value.integer n ∷ []) free budget

-- The parameter plus 1.
abbrev pub add_one : Expr
add_one = Expr.binary Plus (Expr.name 0) (Expr.integer one)

abbrev pub adder : Module
adder = record { rows = []; functions = function_of 1 add_one ∷ [] }

-- Its bytes; and a run on 2, which takes three steps and 20 bytes above the entries: 5 for the argument, 5 for its copy,
-- 5 for the 1 and 5 for the sum above these.
pub record AddsOne : Type 0 where
  pub bytes : encode_module adder ≡ 0x01 ∷ 0 ∷ 1 ∷ 0x20 ∷ 1 ∷ 1 ∷ 0x10 ∷ 1 ∷ 0x10 ∷ 1 ∷ 0x35 ∷ 1 ∷ 0x34 ∷ 0 ∷ 0x31 ∷ 0 ∷ 0 ∷ 0 ∷ 1 ∷ []
  pub enough : (merge : Merging) → ran_on merge two 1 add_one 20 3 ≡ finished (Value.integer three ∷ []) 0
  pub too_little_room : (merge : Merging) → ran_on merge two 1 add_one 19 3 ≡ full 0
  pub too_few_steps : (merge : Merging) → ran_on merge two 1 add_one 20 2 ≡ spent

-- for i := n, if i <= 0 then i else iter i - 1.
abbrev pub count_down : Expr
count_down =
    Expr.for (1 ∷ []) (Expr.name 0)
    (LoopEnd.if_end
    (Expr.binary AtMost (Expr.name 1) (Expr.integer nought))
    (LoopEnd.done (Expr.name 1))
    (LoopEnd.iter (Expr.binary Minus (Expr.name 1) (Expr.integer one))))

-- The same with an error as test.
abbrev pub count_wrongly : Expr
count_wrongly = Expr.for (1 ∷ []) (Expr.name 0) (LoopEnd.if_end (Expr.error Undef 0) (LoopEnd.done (Expr.name 1)) (LoopEnd.iter (Expr.name 1)))

-- The array of the indices from the parameter to M, and the array of two elements from the parameter on.
abbrev pub up_to_most : Expr
up_to_most = Expr.forall (Collect 2) (Expr.name 0) (Expr.integer most) (Expr.name 1)

abbrev pub two_from : Expr
two_from = Expr.array 2 (Expr.name 0) (Expr.list (Exprs.◌then◌ (Expr.name 0) (Exprs.◌then◌ (Expr.name 0) Exprs.none)))

-- The sum of the indices from 2 to the parameter.
abbrev pub sum_from_two : Expr
sum_from_two = Expr.forall (Integers integer_merges.Plus) (Expr.integer two) (Expr.name 0) (Expr.name 1)

-- A loop takes its steps at each turn, and ends with undef at an error as test; M is an index as any other, but an array
-- does not pass it; and a range with high below low has no parts.
pub record Edges : Type 0 where
  pub turns : (merge : Merging) → ran_on merge three 1 count_down 30 31 ≡ finished (Value.integer nought ∷ []) 0
  pub wrong_test : (merge : Merging) → ran_on merge three 1 count_wrongly 30 4 ≡ finished (undef ∷ []) 0
  pub last_index : (merges : Merges)
      → ran_on (merged merges) most 2 up_to_most 60 4 ≡ finished (Value.array most (row (Value.integer most ∷ [])) ∷ []) 0
  pub past_most : (merge : Merging) → ran_on merge most 2 two_from 60 5 ≡ finished (undef ∷ []) 0
  pub no_parts : (merges : Merges) → ran_on (merged merges) one 1 sum_from_two 60 3 ≡ finished (integer_value (merges.plus []) ∷ []) 0

pub record Figures : Type 0 where
  pub adds_one : AddsOne
  pub edges : Edges
