use Rattle.std.proofs.Common.{◌≡◌, ◌+◌, ◌-◌, ◌*◌, ◌≤◌, length, is_some, vec_items}
use Rattle.std.specs.Prelude.{nat_lt}
use Rattle.values.specs.Rows.{used}
use Rattle.module_check.specs.Views.{counts_in, names_in, expr_in, end_in}
use Rattle.module_check.proofs.Loops.{shared, Listing, Arming, Ending}
use Rattle.module_check.proofs.reader.Reader.+expressions.Given as goal

-- The bytes that are left, and behind them how far a call is from reading one.
abbrev pub decreases-arms : goal.decreases-arms
decreases-arms l = 8 * (length l.parent.now.scene.bytes.now - l.self.now.at) + 5

abbrev pub decreases-asked : goal.decreases-asked
decreases-asked l = 8 * (length l.parent.now.scene.bytes.now - l.self.now.at) + 1

abbrev pub decreases-binding : goal.decreases-binding
decreases-binding l = 8 * (length l.parent.now.scene.bytes.now - l.self.now.at) + 6

abbrev pub decreases-branch : goal.decreases-branch
decreases-branch l = 8 * (length l.parent.now.scene.bytes.now - l.self.now.at) + 6

abbrev pub decreases-cycle : goal.decreases-cycle
decreases-cycle l = 8 * (length l.parent.now.scene.bytes.now - l.self.now.at) + 6

abbrev pub decreases-end : goal.decreases-end
decreases-end l = 8 * (length l.scene.now.bytes.now - l.self.now.at) + 2

abbrev pub decreases-end_if : goal.decreases-end_if
decreases-end_if l = 8 * (length l.parent.now.scene.bytes.now - l.self.now.at) + 6

abbrev pub decreases-end_let : goal.decreases-end_let
decreases-end_let l = 8 * (length l.parent.now.scene.bytes.now - l.self.now.at) + 6

abbrev pub decreases-end_parts : goal.decreases-end_parts
decreases-end_parts l = 8 * (length l.parent.now.scene.bytes.now - l.self.now.at) + 7

abbrev pub decreases-end_tag : goal.decreases-end_tag
decreases-end_tag l = 8 * (length l.parent.now.scene.bytes.now - l.self.now.at) + 6

abbrev pub decreases-ends : goal.decreases-ends
decreases-ends l = 8 * (length l.scene.now.bytes.now - l.self.now.at) + 5

abbrev pub decreases-expr : goal.decreases-expr
decreases-expr l = 8 * (length l.scene.now.bytes.now - l.self.now.at) + 0

abbrev pub decreases-forall : goal.decreases-forall
decreases-forall l = 8 * (length l.parent.now.scene.bytes.now - l.self.now.at) + 6

abbrev pub decreases-list : goal.decreases-list
decreases-list l = 8 * (length l.parent.now.scene.bytes.now - l.self.now.at) + 6

abbrev pub decreases-one : goal.decreases-one
decreases-one l = 8 * (length l.parent.now.scene.bytes.now - l.self.now.at) + 6

abbrev pub decreases-parts : goal.decreases-parts
decreases-parts l = 8 * (length l.parent.now.scene.bytes.now - l.self.now.at) + 7

abbrev pub decreases-tagcase : goal.decreases-tagcase
decreases-tagcase l = 8 * (length l.parent.now.scene.bytes.now - l.self.now.at) + 6

abbrev pub decreases-two : goal.decreases-two
decreases-two l = 8 * (length l.parent.now.scene.bytes.now - l.self.now.at) + 6

-- What the loops have read.
abbrev pub invariant-list-loop-number : goal.invariant-list-loop-number
invariant-list-loop-number l =
    (l.initial.self.at ≤ l.self.at) × (length l.number-items ≡ l.members)
    × Listing (counts_in l.parent.scene) (expr_in l.parent.scene) (names_in l.parent.scene) l.members l.initial.self.at (vec_items l.initial.self.nodes) l.number-index l.number-items l.singles (vec_items l.self.nodes) l.self.at

abbrev pub invariant-arms-loop-constituent : goal.invariant-arms-loop-constituent
invariant-arms-loop-constituent l =
    (l.initial.self.at ≤ l.self.at) × (is_some l.first ≡ nat_lt 0 l.constituent-index)
    × Arming (counts_in l.parent.scene) (expr_in l.parent.scene) (used l.fn.constituents) (names_in l.parent.scene) l.initial.self.at (vec_items l.initial.self.nodes) (shared l.first) l.constituent-index l.agree (vec_items l.self.nodes) l.self.at

abbrev pub invariant-ends-loop-constituent : goal.invariant-ends-loop-constituent
invariant-ends-loop-constituent l =
    (l.initial.self.at ≤ l.self.at)
    × Ending (counts_in l.scene) (end_in l.scene) (used l.enclosing.results) (used l.enclosing.names) (used l.fn.constituents) (names_in l.scene) l.initial.self.at (vec_items l.initial.self.nodes) l.constituent-index (vec_items l.self.nodes) l.self.at
