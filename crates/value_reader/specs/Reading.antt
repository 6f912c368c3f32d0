-- How bytes are read as a value of a type: front to back, and the first failure answers.
use Rattle.std.specs.Prelude.{ℕ, zero, suc, ◌+◌, Bool, true, false, cond, ◌&&◌, ◌||◌, List, length, ℤ, pos, negsuc, ◌+ℤ◌, Some, None, Ok, Err, Option, Result, ◌==◌, int_lt, nat_le, nat_lt}
use Rattle.std.specs.Int.Signed.{le_z}
use Rattle.values.specs.declared.refusal.Refusal.{Refusal}
use Rattle.values.specs.declared.refusal.Refusal.TheVariants.{Cut, Strange, Undeclared, Clash}
use Rattle.values.specs.declared.row.Row.{Row}
use Rattle.values.specs.Trees.{Tree, Trees}
use Rattle.values.specs.Rows.{tree_of}
use Rattle.value_reader.specs.Bytes.{byte, pair_at, word_at, two_fit, four_fit}

-- Where the value ends, or why it is refused.
abbrev pub Verdict : Type 0
Verdict = Result ℕ Refusal

-- A test: where it fails, the refusal answers.
abbrev pub given : {A : Type 0} → Bool → Refusal → Result A Refusal → Result A Refusal
given true e r = r
given false e r = Err e

-- One value behind the other.
abbrev pub and_then : Verdict → (ℕ → Verdict) → Verdict
and_then (Ok next) f = f next
and_then (Err e) f = Err e

-- The codes 1 and 2 are of every type, 3 to 6 of integers only.
abbrev pub admitted : Bool → ℕ → Bool
admitted arithmetic code = nat_le 1 code && nat_le code (cond arithmetic 6 2)

-- An error value: its body is one byte, its code.
abbrev pub fault_at : Bool → List ℕ → ℕ → Result (Option ℕ) Refusal
fault_at arithmetic bs at =
    given (nat_le (at + 2) (length bs)) (Cut at)
    (given (admitted arithmetic (byte bs (at + 1))) (Clash at)
    (Ok (Some (at + 2))))

-- The head of a value: there is a record; its kind is that of an error, or the type's own; the body is whole.
-- An error value answers where it ends.
abbrev pub opens : ℕ → ℕ → Bool → List ℕ → ℕ → Result (Option ℕ) Refusal
opens own size arithmetic bs at =
    given (nat_lt at (length bs)) (Cut (length bs))
    (cond (byte bs at == 0x52) (fault_at arithmetic bs at)
    (given (byte bs at == own) (Clash at)
    (given (nat_le (at + size) (length bs)) (Cut at)
    (Ok None))))

-- The body and the parts of a value that is no error.
abbrev pub after : Result (Option ℕ) Refusal → Verdict → Verdict
after (Ok None) body = body
after (Ok (Some end)) body = Ok end
after (Err e) body = Err e

-- A boolean: its byte is 0 or 1.
abbrev pub boolean_at : List ℕ → ℕ → Verdict
boolean_at bs at =
    after (opens 0x50 2 false bs at)
    (given (nat_lt (byte bs (at + 1)) 2) (Strange at)
    (Ok (at + 2)))

-- Four bytes are a proper number unless they are 80 00 00 00.
abbrev pub proper_at : List ℕ → ℕ → Bool
proper_at bs at = four_fit bs at && int_lt (negsuc 2147483647) (word_at bs at)

-- An integer.
abbrev pub integer_at : List ℕ → ℕ → Verdict
integer_at bs at =
    after (opens 0x51 5 true bs at)
    (given (proper_at bs (at + 1)) (Strange at)
    (Ok (at + 5)))

-- A low index and a number of elements: an array without elements begins at 1, and no index passes 2147483647.
abbrev pub ranged : ℤ → ℕ → Bool
ranged low count = (nat_lt 0 count || (le_z low (pos 1) && le_z (pos 1) low)) && le_z (low +ℤ pos count) (pos 2147483648)

-- An array's body.
abbrev pub indexed_at : List ℕ → ℕ → Bool
indexed_at bs at = proper_at bs at && (two_fit bs (at + 4) && ranged (word_at bs at) (pair_at bs (at + 4)))

-- As many elements as the count says.
abbrev pub repeated : ℕ → (ℕ → Verdict) → ℕ → Verdict
repeated zero f at = Ok at
repeated (suc n) f at = and_then (f at) (repeated n f)

-- An array: its head, and and_then its elements, each by f.
abbrev pub array_at : (ℕ → Verdict) → List ℕ → ℕ → Verdict
array_at f bs at =
    after (opens 0x53 7 false bs at)
    (given (indexed_at bs (at + 1)) (Strange at)
    (repeated (pair_at bs (at + 5)) f (at + 7)))

-- A record: its count is the row's, and and_then its members by f.
abbrev pub record_at : ℕ → (ℕ → Verdict) → List ℕ → ℕ → Verdict
record_at count f bs at =
    after (opens 0x54 2 false bs at)
    (given (byte bs (at + 1) == count) (Clash at)
    (f (at + 2)))

-- A union: its tag names a constituent, and f reads it.
abbrev pub union_at : (ℕ → ℕ → Verdict) → List ℕ → ℕ → Verdict
union_at f bs at = after (opens 0x55 2 false bs at) (f (byte bs (at + 1)) at)

-- How many types there are.
abbrev pub count_of : Trees → ℕ
count_of Trees.none = 0
count_of (Trees.◌then◌ t ts) = suc (count_of ts)

-- A value of a type, from an offset on.
unfoldable mutual
  pub read : Tree → List ℕ → ℕ → Verdict
  read Tree.boolean bs = boolean_at bs
  read Tree.integer bs = integer_at bs
  read (Tree.array t) bs = array_at (read t bs) bs
  read (Tree.record_of ts) bs = record_at (count_of ts) (reads ts bs) bs
  read (Tree.union ts) bs = union_at (λ tag. chosen ts tag bs) bs

  -- Values of these types, one behind the other.
  pub reads : Trees → List ℕ → ℕ → Verdict
  reads Trees.none bs = λ at. Ok at
  reads (Trees.◌then◌ t ts) bs = λ at. and_then (read t bs at) (reads ts bs)

  -- The constituent of the union at an offset, of the type that the tag names.
  pub chosen : Trees → ℕ → List ℕ → ℕ → Verdict
  chosen Trees.none = λ tag bs at. Err (Clash at)
  chosen (Trees.◌then◌ t ts) = elim [ zero ↦ λ bs at. read t bs (at + 2) | suc tag ↦ chosen ts tag ]

-- A value of a type that may be missing: that is undeclared, at 0.
abbrev pub read_as : Option Tree → List ℕ → ℕ → Verdict
read_as (Some t) bs at = read t bs at
read_as None bs at = Err (Undeclared 0)

-- A value of the type that has a number in a table.
unfoldable pub read_number : List Row → ℕ → List ℕ → ℕ → Verdict
read_number rows n = read_as (tree_of rows n)

-- Bytes that are one value and no more: what goes on behind it is cut there.
abbrev pub ended : List ℕ → ℕ → Verdict
ended bs end = given (nat_le (length bs) end) (Cut end) (Ok end)

unfoldable pub read_whole : List Row → ℕ → List ℕ → Verdict
read_whole rows n bs = and_then (read_number rows n bs 0) (ended bs)
