-- What the code's structures stand for.
use Rattle.std.specs.Prelude.{ℕ, List, map, length, take, vec_items}
use Rattle.values.specs.Rows.{used}
use Rattle.values.specs.Tables.{rows_of}
use Rattle.language.specs.declared.function.Function as code
use Rattle.language.specs.declared.node.Kind.{Kind}
use Rattle.language.specs.declared.node.Kind.TheVariants as kind
use Rattle.language.specs.declared.node.Block.TheVariants as block
use Rattle.language.specs.declared.node.End.TheVariants as end
use Rattle.language.specs.Typing.{Signature, Context, context, result_counts}
use Rattle.verdict.specs.declared.kinds.Head.{Head}
use Rattle.verdict.specs.declared.kinds.Head.TheVariants as head
use Rattle.module_check.specs.declared.scope.Scope.{Scope}
use Rattle.module_check.specs.declared.tables.Tables.{Tables}
use Rattle.module_check.specs.declared.scene.Scene.{Scene}
use Rattle.values.specs.declared.row.Row.{Row}
use Rattle.verdict.specs.Expressions.{Reads, Ends, expr, end}

-- The types of the names in scope, the oldest first.
abbrev pub names : Scope → List ℕ
names s = take s.count s.types

-- What callers see of the functions.
abbrev pub seen : code.Function → Signature
seen f = record { parameters = used f.parameters; results = used f.results }

abbrev pub seen_all : List code.Function → List Signature
seen_all fs = map seen fs

abbrev pub context_of : Tables → Context
context_of t = context (rows_of t.types) (seen_all (vec_items t.functions))

abbrev pub counts_of : Tables → List ℕ
counts_of t = result_counts (seen_all (vec_items t.functions))

-- The same in a scene, with the rows and the names there.
abbrev pub rows_in : Scene → List Row
rows_in s = rows_of s.tables.now.types

abbrev pub context_in : Scene → Context
context_in s = context_of s.tables.now

abbrev pub counts_in : Scene → List ℕ
counts_in s = counts_of s.tables.now

abbrev pub names_in : Scene → List ℕ
names_in s = names s.scope.now

-- What the verdict reads there as an expression, and as the end of a loop.
abbrev pub expr_in : Scene → Reads
expr_in s = expr (context_in s) s.room s.bytes.now

abbrev pub end_in : Scene → Ends
end_in s = end (context_in s) s.room s.bytes.now

-- The kind that a record is noted with, by its head and the types of its values.
abbrev pub kind_of : Head → List ℕ → Kind
kind_of (head.Leaf l t) ts = kind.Leaf l
kind_of (head.One o) ts = kind.One o
kind_of (head.Two o) ts = kind.Two o
kind_of (head.List n) ts = kind.Block (block.List n)
kind_of head.If ts = kind.Block (block.If (length ts))
kind_of head.Let ts = kind.Block block.Let
kind_of (head.Tagcase n) ts = kind.Block (block.Tagcase n (length ts))
kind_of (head.For m) ts = kind.Block (block.For (length (used m)))
kind_of (head.Forall m t) ts = kind.Block (block.Forall m)
kind_of head.Iter ts = kind.End end.Iter

-- The same at the end of a loop with results of the types ts.
abbrev pub end_kind_of : Head → List ℕ → Kind
end_kind_of (head.Leaf l t) ts = kind.End end.Iter
end_kind_of (head.One o) ts = kind.End end.Iter
end_kind_of (head.Two o) ts = kind.End end.Iter
end_kind_of (head.List n) ts = kind.End end.Iter
end_kind_of head.If ts = kind.End (end.If (length ts))
end_kind_of head.Let ts = kind.End end.Let
end_kind_of (head.Tagcase n) ts = kind.End (end.Tagcase n (length ts))
end_kind_of (head.For m) ts = kind.End end.Iter
end_kind_of (head.Forall m t) ts = kind.End end.Iter
end_kind_of head.Iter ts = kind.End end.Iter
