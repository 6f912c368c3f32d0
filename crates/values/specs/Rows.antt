-- Type tables: rows that use lower type numbers only, and the types that they stand for.
use Rattle.std.specs.Prelude.{◌≡◌, ℕ, ◌+◌, Bool, true, ◌&&◌, List, [], ◌∷◌, ◌++◌, length, take, Option, nat_le, nat_lt, slice_index_or}
use Rattle.std.specs.List.{list_all, slice_get}
use Rattle.values.specs.declared.members.Members.{Members}
use Rattle.values.specs.declared.row.Row.{Row}
use Rattle.values.specs.declared.row.Row.TheVariants.{Array, Record, Union}
use Rattle.values.specs.Trees.{Tree, Trees}

-- The type numbers of members.
abbrev pub used : Members → List ℕ
used m = take m.count m.numbers

-- Whether each number is below a limit.
abbrev pub all_below : ℕ → List ℕ → Bool
all_below limit = list_all (λ n. nat_lt n limit)

-- The type numbers that a row uses.
abbrev pub uses : Row → List ℕ
uses (Array n) = n ∷ []
uses (Record m) = used m
uses (Union m) = used m

-- Each row uses lower numbers only, where the first has the number n.
unfoldable pub lower_from : ℕ → List Row → Bool
lower_from n [] = true
lower_from n (r ∷ rs) = all_below n (uses r) && lower_from (n + 1) rs

-- A table: the rows have the numbers from 2 on, use lower numbers only, and are 60 at most.
unfoldable pub sound : List Row → Bool
sound rows = nat_le (length rows) 60 && lower_from 2 rows

-- The type of a row, over the types of the lower numbers.
abbrev pub trees_of : List Tree → List ℕ → Trees
trees_of below [] = Trees.none
trees_of below (n ∷ ns) = Trees.◌then◌ (slice_index_or below n Tree.boolean) (trees_of below ns)

abbrev pub tree : List Tree → Row → Tree
tree below (Array n) = Tree.array (slice_index_or below n Tree.boolean)
tree below (Record m) = Tree.record_of (trees_of below (used m))
tree below (Union m) = Tree.union (trees_of below (used m))

-- The types of rows, behind those of the lower numbers.
unfoldable pub grown : List Tree → List Row → List Tree
grown below [] = below
grown below (r ∷ rs) = grown (below ++ tree below r ∷ []) rs

-- The types of a table by their numbers: boolean is 0, integer 1, and the rows follow.
unfoldable pub table : List Row → List Tree
table rows = grown (Tree.boolean ∷ Tree.integer ∷ []) rows

-- The type with a number that the table has.
abbrev pub tree_at : List Row → ℕ → Tree
tree_at rows n = slice_index_or (table rows) n Tree.boolean

-- The type with a number; a number that the table lacks has none.
unfoldable pub tree_of : List Row → ℕ → Option Tree
tree_of rows n = slice_get (table rows) n

-- Rows are the same if they are of one sort and use the same numbers.
abbrev pub SameRow : Row → Row → Type 0
SameRow (Array n) (Array m) = n ≡ m
SameRow (Array n) (Record m) = ⊥
SameRow (Array n) (Union m) = ⊥
SameRow (Record n) (Array m) = ⊥
SameRow (Record n) (Record m) = used n ≡ used m
SameRow (Record n) (Union m) = ⊥
SameRow (Union n) (Array m) = ⊥
SameRow (Union n) (Record m) = ⊥
SameRow (Union n) (Union m) = used n ≡ used m
