-- What the typing rules ask of type numbers, error values, operations and merges.
use Rattle.std.specs.Prelude.{ℕ, ◌+◌, Bool, true, false, ◌&&◌, ◌||◌, List, [], ◌∷◌, length, Some, None, Option, ◌==◌, nat_lt}
use Rattle.numbers.specs.declared.fault.Fault.{Fault}
use Rattle.numbers.specs.declared.fault.Fault.TheVariants.{Undef, MissElt, PosOver, NegOver, Unknown, ZeroDivide}
use Rattle.values.specs.declared.row.Row.{Row}
use Rattle.values.specs.declared.row.Row.TheVariants.{Array, Record, Union}
use Rattle.values.specs.Rows.{used}
use Rattle.values.specs.Tables.{row_of}
use Rattle.language.specs.declared.operation.Unary.{Unary}
use Rattle.language.specs.declared.operation.Unary.TheVariants.{Negate, Abs, Not, IsFault, IsError, Lowest, Highest, Size}
use Rattle.language.specs.declared.operation.Binary.{Binary}
use Rattle.language.specs.declared.operation.Binary.TheVariants.{Plus, Minus, Times, Divide, Modulo, Max, Min, Equal, Unequal, Less, AtMost, Greater, AtLeast, And, Or}
use Rattle.language.specs.declared.merge.Merge.{Merge}
use Rattle.language.specs.declared.merge.Merge.TheVariants.{Collect, Integers, Booleans}

-- Whether there is a type with this number: 0 and 1, and the rows from 2 on.
abbrev pub declared : List Row → ℕ → Bool
declared rows t = nat_lt t (length rows + 2)

-- The type of an array row's elements, the types of a record row's fields, the types of a union row's constituents by
-- their tags; none for any other type.
abbrev pub element_in : Option Row → Option ℕ
element_in (Some (Array t)) = Some t
element_in (Some (Record m)) = None
element_in (Some (Union m)) = None
element_in None = None

abbrev pub fields_in : Option Row → Option (List ℕ)
fields_in (Some (Array t)) = None
fields_in (Some (Record m)) = Some (used m)
fields_in (Some (Union m)) = None
fields_in None = None

abbrev pub tags_in : Option Row → Option (List ℕ)
tags_in (Some (Array t)) = None
tags_in (Some (Record m)) = None
tags_in (Some (Union m)) = Some (used m)
tags_in None = None

abbrev pub element_of : List Row → ℕ → Option ℕ
element_of rows t = element_in (row_of rows t)

abbrev pub fields_of : List Row → ℕ → Option (List ℕ)
fields_of rows t = fields_in (row_of rows t)

abbrev pub tags_of : List Row → ℕ → Option (List ℕ)
tags_of rows t = tags_in (row_of rows t)

abbrev pub present : {A : Type 0} → Option A → Bool
present (Some a) = true
present None = false

-- undef and miss_elt are errors of every type, the others of integers only.
abbrev pub basic : Fault → Bool
basic Undef = true
basic MissElt = true
basic PosOver = false
basic NegOver = false
basic Unknown = false
basic ZeroDivide = false

abbrev pub has_fault : ℕ → Fault → Bool
has_fault t f = t == 1 || basic f

-- Whether an operation takes an operand of a type, and the type of its result.
abbrev pub takes : List Row → Unary → ℕ → Bool
takes rows Negate t = t == 1
takes rows Abs t = t == 1
takes rows Not t = t == 0
takes rows (IsFault f) t = has_fault t f
takes rows IsError t = true
takes rows Lowest t = present (element_of rows t)
takes rows Highest t = present (element_of rows t)
takes rows Size t = present (element_of rows t)

abbrev pub gives : Unary → ℕ
gives Negate = 1
gives Abs = 1
gives Not = 0
gives (IsFault f) = 0
gives IsError = 0
gives Lowest = 1
gives Highest = 1
gives Size = 1

-- The type of both operands of an operation, and that of its result.
abbrev pub operand : Binary → ℕ
operand Plus = 1
operand Minus = 1
operand Times = 1
operand Divide = 1
operand Modulo = 1
operand Max = 1
operand Min = 1
operand Equal = 1
operand Unequal = 1
operand Less = 1
operand AtMost = 1
operand Greater = 1
operand AtLeast = 1
operand And = 0
operand Or = 0

abbrev pub result_of : Binary → ℕ
result_of Plus = 1
result_of Minus = 1
result_of Times = 1
result_of Divide = 1
result_of Modulo = 1
result_of Max = 1
result_of Min = 1
result_of Equal = 0
result_of Unequal = 0
result_of Less = 0
result_of AtMost = 0
result_of Greater = 0
result_of AtLeast = 0
result_of And = 0
result_of Or = 0

-- The type of the parts that a merge takes, and that of what it makes of them.
abbrev pub part_type : List Row → Merge → Option ℕ
part_type rows (Collect t) = element_of rows t
part_type rows (Integers o) = Some 1
part_type rows (Booleans o) = Some 0

abbrev pub merged_type : Merge → ℕ
merged_type (Collect t) = t
merged_type (Integers o) = 1
merged_type (Booleans o) = 0

-- Whether two lists of numbers are the same.
abbrev pub same : List ℕ → List ℕ → Bool
same [] [] = true
same [] (n ∷ ns) = false
same (m ∷ ms) [] = false
same (m ∷ ms) (n ∷ ns) = m == n && same ms ns

-- Two rows are twins if they are of one kind and use the same types in the same order.
abbrev pub twins : Row → Row → Bool
twins (Array t) (Array u) = t == u
twins (Array t) (Record n) = false
twins (Array t) (Union n) = false
twins (Record m) (Array u) = false
twins (Record m) (Record n) = same (used m) (used n)
twins (Record m) (Union n) = false
twins (Union m) (Array u) = false
twins (Union m) (Record n) = false
twins (Union m) (Union n) = same (used m) (used n)

-- Whether a row has a twin among others.
abbrev pub has_twin : List Row → Row → Bool
has_twin [] r = false
has_twin (q ∷ rows) r = twins q r || has_twin rows r
