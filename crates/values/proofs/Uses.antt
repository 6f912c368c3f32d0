-- The type numbers that rows use.
use Rattle.std.proofs.Common.{◌≡◌, ℕ, ◌-◌, ◌<◌, ◌≤◌, List, length, cond, Some, None, sym, refl, ap, ◌∙◌, get_or, arith}
use Rattle.std.proofs.lemmas.List.{length-take-le}
use Rattle.std.proofs.lemmas.Option.{slice_get_read}
use Rattle.std.proofs.lemmas.Bool.{le-ltb}
use Rattle.std.specs.List.{slice_get}
use Rattle.values.specs.declared.members.Members.{Members}
use Rattle.values.specs.declared.row.Row.{Row}
use Rattle.values.specs.Rows.{used}
use Rattle.values.specs.Tables.{row_of}

pub used_length : (m : Members) → length (used m) ≡ m.count
used_length m = length-take-le m.count m.numbers (omega (arith, m.counted))

-- The row of a type number that the table has.
pub row_there : (rows : List Row) (n : ℕ) (r : Row) → 2 ≤ n → n - 2 < length rows → r ≡ get_or rows (n - 2) r → Some r ≡ row_of rows n
row_there rows n r two h e = sym (ap (λ b. cond b None (slice_get rows (n - 2))) (le-ltb n 2 two) ∙ slice_get_read rows (length rows) (n - 2) r refl h e)
