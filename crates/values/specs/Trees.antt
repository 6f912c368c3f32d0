-- What a type is, and which values are of a type.
use Rattle.std.specs.Prelude.{◌≡◌, ℕ, zero, suc, ◌<◌, length, ℤ, pos, ◌+ℤ◌, ◌≤ℤ◌}
use Rattle.numbers.specs.declared.fault.Fault.{Fault}
use Rattle.numbers.specs.declared.fault.Fault.TheVariants.{Undef, MissElt, PosOver, NegOver, Unknown, ZeroDivide}
use Rattle.values.specs.Values.{Value, Values, members}

-- A type, written out whole: boolean, integer, an array of a type, a record or a union of types.
mutual
  pub data Tree : Type 0 where
    boolean integer : Tree
    array : Tree → Tree
    record_of : Trees → Tree
    union : Trees → Tree

  pub data Trees : Type 0 where
    none : Trees
    ◌then◌ : Tree → Trees → Trees

infixr 50 ◌then◌
-- undef and miss_elt are of every type, the other error values of integers only.
abbrev pub Basic : Fault → Type 0
Basic Undef = Unit {0}
Basic MissElt = Unit {0}
Basic PosOver = ⊥
Basic NegOver = ⊥
Basic Unknown = ⊥
Basic ZeroDivide = ⊥

-- The low index and the number of elements of an array: an array without elements begins at 1, and no index passes
-- 2147483647, so the index behind the last one is at most 2147483648. The number fits two bytes.
pub record Indexed (low : ℤ) (count : ℕ) : Type 0 where
  pub few : count < 65536
  pub empty : count ≡ 0 → low ≡ pos 1
  pub within : (low +ℤ pos count) ≤ℤ pos 2147483648

-- Each value of a row.
abbrev pub Each : (Value → Type 0) → Values → Type 0
Each P Values.none = Unit {0}
Each P (Values.◌then◌ v vs) = P v × Each P vs

-- A value is of a type if it is an error of the type, or has its kind and parts that are each of their own type.
unfoldable mutual
  pub Of : Tree → Value → Type 0
  Of Tree.boolean = elim [
    | Value.boolean b ↦ Unit {0}
    | Value.integer n ↦ ⊥
    | Value.error f ↦ Basic f
    | Value.array low vs ↦ ⊥
    | Value.record_of vs ↦ ⊥
    | Value.union tag v ↦ ⊥
  ]
  Of Tree.integer = elim [
    | Value.boolean b ↦ ⊥
    | Value.integer n ↦ Unit {0}
    | Value.error f ↦ Unit {0}
    | Value.array low vs ↦ ⊥
    | Value.record_of vs ↦ ⊥
    | Value.union tag v ↦ ⊥
  ]
  Of (Tree.array t) = elim [
    | Value.boolean b ↦ ⊥
    | Value.integer n ↦ ⊥
    | Value.error f ↦ Basic f
    | Value.array low vs ↦ Indexed low.value (length (members vs)) × Each (Of t) vs
    | Value.record_of vs ↦ ⊥
    | Value.union tag v ↦ ⊥
  ]
  Of (Tree.record_of ts) = elim [
    | Value.boolean b ↦ ⊥
    | Value.integer n ↦ ⊥
    | Value.error f ↦ Basic f
    | Value.array low vs ↦ ⊥
    | Value.record_of vs ↦ RowOf ts vs
    | Value.union tag v ↦ ⊥
  ]
  Of (Tree.union ts) = elim [
    | Value.boolean b ↦ ⊥
    | Value.integer n ↦ ⊥
    | Value.error f ↦ Basic f
    | Value.array low vs ↦ ⊥
    | Value.record_of vs ↦ ⊥
    | Value.union tag v ↦ OneOf ts tag v
  ]

  -- As many values as types, each of its own.
  pub RowOf : Trees → Values → Type 0
  RowOf Trees.none = elim [ Values.none ↦ Unit {0} | Values.◌then◌ v vs ↦ ⊥ ]
  RowOf (Trees.◌then◌ t ts) = elim [ Values.none ↦ ⊥ | Values.◌then◌ v vs ↦ Of t v × RowOf ts vs ]

  -- The value is of the type that has the tag's number, counted from 0.
  pub OneOf : Trees → ℕ → Value → Type 0
  OneOf Trees.none = λ n v. ⊥
  OneOf (Trees.◌then◌ t ts) = elim [ zero ↦ λ v. Of t v | suc n ↦ λ v. OneOf ts n v ]
