-- Kinds, bodies and uses: what is read and judged before the parts of a record.
use Rattle.std.specs.Prelude.{◌≡◌, ℕ, ◌+◌, ◌-◌, ◌*◌, ◌≤◌, Bool, true, cond, ◌&&◌, List, [], ◌∷◌, ◌++◌, length, replicate, Some, None, Option, ◌==◌, nat_le, nat_lt, refl}
use Rattle.std.proofs.Common.{arith, length-append, to_z}
use Rattle.std.proofs.lemmas.List.{length-replicate}
use Rattle.std.specs.Int.{w32}
use Rattle.std.specs.List.{slice_get}
use Rattle.std.proofs.lemmas.Bool.{and_parts, leb-true}
use Rattle.numbers.specs.declared.number.Number.{Number}
use Rattle.numbers.specs.declared.fault.Fault.{Fault}
use Rattle.numbers.specs.declared.fault.Fault.TheVariants.{Undef, MissElt, PosOver, NegOver, Unknown, ZeroDivide}
use Rattle.numbers.specs.declared.integer.Integer.{Integer}
use Rattle.numbers.specs.declared.integer.Integer.TheVariants as integer
use Rattle.numbers.specs.Integers as proper
use Rattle.numbers.specs.Faults.{of_code}
use Rattle.merging.specs.declared.bundle.IntegerMerge.TheVariants as integers
use Rattle.merging.specs.declared.bundle.BooleanMerge.TheVariants as booleans
use Rattle.values.specs.declared.members.Members.{Members}
use Rattle.values.specs.declared.row.Row.{Row}
use Rattle.values.specs.declared.refusal.Refusal.TheVariants.{Strange, Undeclared, Clash}
use Rattle.language.specs.declared.operation.Unary.TheVariants.{Negate, Abs, Not, IsFault, IsError, Lowest, Highest, Size}
use Rattle.language.specs.declared.operation.Binary.TheVariants.{Plus, Minus, Times, Divide, Modulo, Max, Min, Equal, Unequal, Less, AtMost, Greater, AtLeast, And, Or}
use Rattle.language.specs.declared.merge.Merge.TheVariants.{Collect, Integers, Booleans}
use Rattle.language.specs.declared.node.Leaf.TheVariants as leaf
use Rattle.language.specs.declared.node.One.TheVariants as one
use Rattle.language.specs.declared.node.Two.TheVariants as two
use Rattle.language.specs.Sorts.{declared, has_fault, element_of, fields_of, tags_of}
use Rattle.language.specs.Typing.{Context}
use Rattle.verdict.specs.declared.kinds.Sort.{Sort}
use Rattle.verdict.specs.declared.kinds.Sort.TheVariants as sort
use Rattle.verdict.specs.declared.kinds.Head.{Head}
use Rattle.verdict.specs.declared.kinds.Head.TheVariants as head
use Rattle.verdict.specs.Outcomes.{Out, accepted, after, judged, passes, found, each, first_at, whole, body, lookup}

-- The kinds of expressions. At the end of a loop there is one more.
abbrev pub sorts : List (ℕ × Sort)
sorts =
    (0x30, sort.List) ∷ (0x31, sort.Integer) ∷ (0x32, sort.Boolean) ∷ (0x33, sort.Error) ∷ (0x34, sort.Name)
    ∷ (0x35, sort.Operation) ∷ (0x36, sort.If) ∷ (0x37, sort.Let) ∷ (0x38, sort.Tagcase) ∷ (0x39, sort.For)
    ∷ (0x3B, sort.Forall) ∷ (0x3C, sort.Call) ∷ (0x3D, sort.Record) ∷ (0x3E, sort.Field) ∷ (0x3F, sort.Union)
    ∷ (0x40, sort.Array) ∷ (0x42, sort.Element) ∷ []

abbrev pub end_sorts : List (ℕ × Sort)
end_sorts = (0x3A, sort.Iter) ∷ sorts

abbrev pub kind_at : List (ℕ × Sort) → List ℕ → ℕ → Out Sort
kind_at table bs p = after (first_at bs p) λ b q. found (Strange p) (lookup table b) q

-- The operations by their codes.
abbrev pub operations : List (ℕ × Head)
operations =
    (1, head.Two (two.Binary Plus)) ∷ (2, head.Two (two.Binary Minus)) ∷ (3, head.Two (two.Binary Times))
    ∷ (4, head.Two (two.Binary Divide)) ∷ (5, head.Two (two.Binary Modulo)) ∷ (6, head.Two (two.Binary Max))
    ∷ (7, head.Two (two.Binary Min)) ∷ (8, head.One (one.Unary Negate)) ∷ (9, head.One (one.Unary Abs))
    ∷ (10, head.Two (two.Binary Equal)) ∷ (11, head.Two (two.Binary Unequal)) ∷ (12, head.Two (two.Binary Less))
    ∷ (13, head.Two (two.Binary AtMost)) ∷ (14, head.Two (two.Binary Greater)) ∷ (15, head.Two (two.Binary AtLeast))
    ∷ (16, head.Two (two.Binary And)) ∷ (17, head.Two (two.Binary Or)) ∷ (18, head.One (one.Unary Not))
    ∷ (19, head.One (one.Unary (IsFault Undef))) ∷ (20, head.One (one.Unary (IsFault MissElt)))
    ∷ (21, head.One (one.Unary (IsFault PosOver))) ∷ (22, head.One (one.Unary (IsFault NegOver)))
    ∷ (23, head.One (one.Unary (IsFault Unknown))) ∷ (24, head.One (one.Unary (IsFault ZeroDivide)))
    ∷ (25, head.One (one.Unary IsError)) ∷ (26, head.One (one.Unary Lowest)) ∷ (27, head.One (one.Unary Highest))
    ∷ (28, head.One (one.Unary Size)) ∷ []

-- The merges with an operator by their numbers, with the type of their parts.
abbrev pub operators : List (ℕ × Head)
operators =
    (1, head.Forall (Integers integers.Plus) 1) ∷ (2, head.Forall (Integers integers.Times) 1)
    ∷ (3, head.Forall (Integers integers.Max) 1) ∷ (4, head.Forall (Integers integers.Min) 1)
    ∷ (5, head.Forall (Booleans booleans.And) 0) ∷ (6, head.Forall (Booleans booleans.Or) 0) ∷ []

-- One to eight.
abbrev pub few : ℕ → Bool
few n = nat_le 1 n && nat_le n 8

-- A proper number from its four bytes, two's complement, the high byte first.
abbrev pub proper_in : Integer → Option Number
proper_in (integer.Proper n) = Some n
proper_in (integer.Error f) = None

abbrev pub number_from : ℕ → ℕ → ℕ → ℕ → Option Number
number_from a b c d = proper_in (proper.judged (to_z w32 (a * 16777216 + b * 65536 + c * 256 + d)))

-- The error value with a code, if it is one of the type.
abbrev pub fault_if : ℕ → Option Fault → Option Fault
fault_if t (Some f) = cond (has_fault t f) (Some f) None
fault_if t None = None

-- One use of a type whose number is below a limit, and so many of them.
abbrev pub use_at : ℕ → List ℕ → ℕ → Out ℕ
use_at limit bs p =
    after (first_at bs p) λ b _. after (passes (Strange p) (b == 0x10) p) λ _ _.
    after (whole 1 bs p) λ _ q. judged (Undeclared p) (nat_lt (body bs p 1) limit) (body bs p 1) q

unfoldable pub uses_at : ℕ → ℕ → List ℕ → ℕ → Out (List ℕ)
uses_at n limit bs p = each (λ (_ : Unit {0}) q. use_at limit bs q) (replicate n tt) p

-- One to eight numbers as members.
pub members_counted : (ns : List ℕ) → few (length ns) ≡ true → (1 ≤ length ns) × (length ns ≤ 8) × (length (ns ++ replicate (8 - length ns) 0) ≡ 8)
members_counted ns e =
    let p = and_parts (nat_le 1 (length ns)) (nat_le (length ns) 8) e in
    let low = leb-true 1 (length ns) p.0 in
    let high = leb-true (length ns) 8 p.1 in
    (low, high, omega (arith, length-append ns (replicate (8 - length ns) 0), length-replicate {A = ℕ} (8 - length ns) 0))

unfoldable pub members_of : List ℕ → Members
members_of ns =
    proper.by_test (few (length ns))
    (λ e. record { numbers = ns ++ replicate (8 - length ns) 0; count = length ns; counted = members_counted ns e })
    (λ _. record { numbers = replicate 8 0; count = 1; counted = (omega arith, omega arith, refl) })

-- The heads of records, by kind. A body is judged once it is whole, its numbers one by one.
abbrev pub list_head : List ℕ → ℕ → Out Head
list_head bs p = after (whole 1 bs p) λ _ q. judged (Strange p) (nat_le 2 (body bs p 1) && nat_le (body bs p 1) 8) (head.List (body bs p 1)) q

abbrev pub integer_head : List ℕ → ℕ → Out Head
integer_head bs p =
    after (whole 4 bs p) λ _ q.
    after (found (Strange p) (number_from (body bs p 1) (body bs p 2) (body bs p 3) (body bs p 4)) q) λ n q.
    accepted (head.Leaf (leaf.Integer n) 1) q

abbrev pub boolean_head : List ℕ → ℕ → Out Head
boolean_head bs p =
    after (whole 1 bs p) λ _ q. judged (Strange p) (nat_lt (body bs p 1) 2) (head.Leaf (leaf.Boolean (body bs p 1 == 1)) 0) q

-- The type, then the code with it.
abbrev pub error_head : List Row → List ℕ → ℕ → Out Head
error_head rows bs p =
    after (whole 2 bs p) λ _ q. after (passes (Undeclared p) (declared rows (body bs p 2)) q) λ _ q.
    after (found (Clash p) (fault_if (body bs p 2) (of_code (body bs p 1))) q) λ f q.
    accepted (head.Leaf (leaf.Error f (body bs p 2)) (body bs p 2)) q

abbrev pub name_head : List ℕ → List ℕ → ℕ → Out Head
name_head bs Γ p =
    after (whole 1 bs p) λ _ q. after (found (Undeclared p) (slice_get Γ (body bs p 1)) q) λ t q.
    accepted (head.Leaf (leaf.Name (body bs p 1)) t) q

abbrev pub operation_head : List ℕ → ℕ → Out Head
operation_head bs p = after (whole 1 bs p) λ _ q. found (Strange p) (lookup operations (body bs p 1)) q

abbrev pub tagcase_head : List ℕ → ℕ → Out Head
tagcase_head bs p = after (whole 1 bs p) λ _ q. judged (Strange p) (few (body bs p 1)) (head.Tagcase (body bs p 1)) q

abbrev pub for_head : List Row → List ℕ → ℕ → Out Head
for_head rows bs p =
    after (whole 1 bs p) λ _ q. after (passes (Strange p) (few (body bs p 1)) q) λ _ q.
    after (uses_at (body bs p 1) (length rows + 2) bs q) λ ts r. accepted (head.For (members_of ts)) r

-- A type that must be declared, and of the right sort.
abbrev pub typed_as : {A : Type 0} → List Row → (ℕ → Option A) → ℕ → ℕ → ℕ → Out A
typed_as rows of t p q = after (passes (Undeclared p) (declared rows t) q) λ _ q. found (Clash p) (of t) q

-- Merge 0 names the array's row; the type byte of the others is 0.
abbrev pub forall_head : List Row → List ℕ → ℕ → Out Head
forall_head rows bs p =
    after (whole 2 bs p) λ _ q. cond (body bs p 1 == 0)
    (after (typed_as rows (element_of rows) (body bs p 2) p q) λ t q. accepted (head.Forall (Collect (body bs p 2)) t) q)
    (after (found (Strange p) (lookup operators (body bs p 1)) q) λ h q. judged (Strange p) (body bs p 2 == 0) h q)

abbrev pub call_head : Context → List ℕ → ℕ → Out Head
call_head C bs p =
    after (whole 1 bs p) λ _ q. judged (Undeclared p) (nat_lt (body bs p 1) (length C.callees)) (head.One (one.Call (body bs p 1))) q

abbrev pub record_head : List Row → List ℕ → ℕ → Out Head
record_head rows bs p =
    after (whole 1 bs p) λ _ q. after (typed_as rows (fields_of rows) (body bs p 1) p q) λ _ q.
    accepted (head.One (one.Record (body bs p 1))) q

abbrev pub field_head : List ℕ → ℕ → Out Head
field_head bs p = after (whole 1 bs p) λ _ q. accepted (head.One (one.Field (body bs p 1))) q

abbrev pub union_head : List Row → List ℕ → ℕ → Out Head
union_head rows bs p =
    after (whole 2 bs p) λ _ q. after (typed_as rows (tags_of rows) (body bs p 1) p q) λ us q.
    after (found (Undeclared p) (slice_get us (body bs p 2)) q) λ _ q. accepted (head.One (one.Union (body bs p 1) (body bs p 2))) q

abbrev pub array_head : List Row → List ℕ → ℕ → Out Head
array_head rows bs p =
    after (whole 1 bs p) λ _ q. after (typed_as rows (element_of rows) (body bs p 1) p q) λ _ q.
    accepted (head.Two (two.Array (body bs p 1))) q

abbrev pub head_at : Context → List ℕ → List ℕ → Sort → ℕ → Out Head
head_at C bs Γ sort.List p = list_head bs p
head_at C bs Γ sort.Integer p = integer_head bs p
head_at C bs Γ sort.Boolean p = boolean_head bs p
head_at C bs Γ sort.Error p = error_head C.rows bs p
head_at C bs Γ sort.Name p = name_head bs Γ p
head_at C bs Γ sort.Operation p = operation_head bs p
head_at C bs Γ sort.If p = accepted head.If (p + 1)
head_at C bs Γ sort.Let p = accepted head.Let (p + 1)
head_at C bs Γ sort.Tagcase p = tagcase_head bs p
head_at C bs Γ sort.For p = for_head C.rows bs p
head_at C bs Γ sort.Iter p = accepted head.Iter (p + 1)
head_at C bs Γ sort.Forall p = forall_head C.rows bs p
head_at C bs Γ sort.Call p = call_head C bs p
head_at C bs Γ sort.Record p = record_head C.rows bs p
head_at C bs Γ sort.Field p = field_head bs p
head_at C bs Γ sort.Union p = union_head C.rows bs p
head_at C bs Γ sort.Array p = array_head C.rows bs p
head_at C bs Γ sort.Element p = accepted (head.Two two.Element) (p + 1)
