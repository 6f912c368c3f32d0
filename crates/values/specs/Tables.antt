-- What the calls on a table of types answer.
use Rattle.std.specs.Prelude.{◌≡◌, ℕ, ◌+◌, ◌-◌, ◌<◌, ◌≤◌, true, false, cond, List, [], ◌∷◌, ◌++◌, length, None, Ok, Err, vec_items, Option, Result, nat_lt}
use Rattle.std.specs.List.{slice_get}
use Rattle.values.specs.declared.row.Row.{Row}
use Rattle.values.specs.declared.row_error.RowError.{RowError}
use Rattle.values.specs.declared.row_error.RowError.TheVariants.{Full, Forward, Memory}
use Rattle.values.specs.declared.types.Types.{Types}
use Rattle.values.specs.Rows.{all_below, uses}

-- The rows of a table, the first with the number 2.
abbrev pub rows_of : Types → List Row
rows_of t = vec_items t.rows

-- The row of a type number; 0 and 1 are no rows.
abbrev pub row_of : List Row → ℕ → Option Row
row_of rows n = cond (nat_lt n 2) None (slice_get rows (n - 2))

-- The row is added under the next number, unless there are 60 rows, or it uses that number or a higher one, or there
-- is no memory: then the table stays as it was.
abbrev pub Pushed : List Row → Row → List Row → Result ℕ RowError → Type 0
Pushed before row after (Ok n) =
    (length before < 60) × (all_below (length before + 2) (uses row) ≡ true) × (n ≡ length before + 2) × (after ≡ before ++ row ∷ [])
Pushed before row after (Err Full) = (60 ≤ length before) × (after ≡ before)
Pushed before row after (Err Forward) =
    (length before < 60) × (all_below (length before + 2) (uses row) ≡ false) × (after ≡ before)
Pushed before row after (Err Memory) =
    (length before < 60) × (all_below (length before + 2) (uses row) ≡ true) × (after ≡ before)
