-- The figures of small runs, by computation.
use Rattle.std.proofs.Common.{◌≡◌, ◌+◌, [], ◌∷◌, refl, ap}
use Rattle.numbers.specs.declared.integer.Integer.{Integer}
use Rattle.numbers.specs.declared.integer.Integer.TheVariants as integers
use Rattle.numbers.proofs.Same.{same_number}
use Rattle.values.specs.Values.{Value, size, integer_value}
use Rattle.language.specs.Encoding.{encode_module, encode_rows, encode_functions, encode_uses, encode_expr}
use Rattle.meaning.specs.Outcomes.{finished, lay}
use Rattle.meaning.specs.Evaluation.{Merging, computing}
use Rattle.meaning.specs.Runs.{merge_by}
use Rattle.meaning.specs.Figures.{nought, two, three, ran_on, add_one, count_down, AddsOne, Edges, Figures}

enough : (merge : Merging) → ran_on merge two 1 add_one 20 3 ≡ finished (Value.integer three ∷ []) 0
unfolding computing
enough merge = ap (λ n. finished (Value.integer n ∷ []) 0) (same_number _ three refl)

adds_one : AddsOne
unfolding computing encode_module encode_rows encode_functions encode_uses encode_expr
adds_one = record { bytes = refl; enough = enough; too_little_room = λ merge. refl; too_few_steps = λ merge. refl }

turns : (merge : Merging) → ran_on merge three 1 count_down 30 31 ≡ finished (Value.integer nought ∷ []) 0
unfolding computing
turns merge = ap (λ n. finished (Value.integer n ∷ []) 0) (same_number _ nought refl)

-- an integer fits, whatever it is
laid : (i : Integer) → lay (0 + size (integer_value i)) 55 (integer_value i ∷ []) 0 ≡ finished (integer_value i ∷ []) 0
unfolding computing
laid (integers.Proper n) = refl
laid (integers.Error f) = refl

edges : Edges
unfolding computing merge_by
edges =
    record {
      turns = turns;
      wrong_test = λ merge. refl;
      last_index = λ merges. refl;
      past_most = λ merge. refl;
      no_parts = λ merges. laid (merges.plus []);
    }

pub figures : Figures
figures = record { adds_one = adds_one; edges = edges }
