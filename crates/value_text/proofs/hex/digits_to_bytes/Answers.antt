use Rattle.std.proofs.Common.{◌≡◌, ◌+◌, ◌*◌, length, drop, vec_items, sym, ap, ◌∙◌, arith, rules}
use Rattle.value_text.specs.Hex.{before, hex}
use Rattle.value_text.proofs.Hexing.{odd_none, read_more, read_none, read_all}
use Rattle.value_text.proofs.hex.digits_to_bytes.Goals as goal

pub returns-then-not-is_empty : goal.returns-then-not-is_empty
returns-then-not-is_empty c =
    let rest : length c.as_chunks.result.1.now ≡ 0 → ⊥ = search rules in
    odd_none c.args.digits.now (λ e. rest (c.as_chunks.ensures.back_len ∙ e))

pub returns-in_default : goal.returns-in_default
returns-in_default c =
    read_none c.args.digits.now (vec_items c.loop-high.bytes) c.as_chunks.result.0.now c.loop-high.high-index
    c.as_chunks.ensures.front c.as_chunks.ensures.front_len c.loop-high-test.true c.loop-high.invariant c.in_default.ensures

pub loop-high-preserved : goal.loop-high-preserved
loop-high-preserved c =
    read_more c.args.digits.now (vec_items c.loop-high.bytes) c.as_chunks.result.0.now c.loop-high.high-index
    c.as_chunks.ensures.front c.as_chunks.ensures.front_len c.loop-high-test.true c.loop-high.invariant c.in-Some.byte c.in-Some.ensures
    ∙ ap (λ xs. before xs (hex (drop (2 * (c.loop-high.high-index + 1)) c.args.digits.now))) (sym c.in_ok-push.ensures.items)

pub returns : goal.returns
returns c =
    let rest : length c.as_chunks.result.1.now ≡ 0 = search rules in
    read_all c.args.digits.now (vec_items c.loop-high.bytes) c.loop-high.high-index c.loop-high.invariant
    (omega (arith, rest, c.as_chunks.ensures.back_len, c.as_chunks.ensures.front_len, c.loop-high-test.false))
