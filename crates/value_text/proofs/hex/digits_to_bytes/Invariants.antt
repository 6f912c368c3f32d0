use Rattle.std.proofs.Common.{◌≡◌, ◌*◌, drop, vec_items}
use Rattle.value_text.specs.Hex.{before, hex}
use Rattle.value_text.proofs.hex.digits_to_bytes.Given as goal

abbrev pub invariant-loop-high : goal.invariant-loop-high
invariant-loop-high l = hex l.digits ≡ before (vec_items l.bytes) (hex (drop (2 * l.high-index) l.digits))
