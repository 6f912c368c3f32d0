use Rattle.std.proofs.Common.{length, refl, ◌∙◌, arith}
use Rattle.value_reader.specs.Skipping.{skipped}
use Rattle.value_reader.proofs.Skips.{none_owed, no_head, too_many, goes_on, skipped_skips}
use Rattle.value_reader.proofs.skip.skip_value.Goals as goal

pub loop-owed-init : goal.loop-owed-init
unfolding skipped
loop-owed-init c = (omega arith, (length c.args.bytes.now, omega arith, refl))

pub returns-in_err-head : goal.returns-in_err-head
returns-in_err-head c =
    let i = c.loop-owed.invariant.1 in
    let e = c.from_residual.ensures ∙ no_head c.args.bytes.now c.loop-owed.end c.loop-owed.owed _ i.0 (omega arith) i.2 c.in_err-head.ensures in
    record { passes = e; skips = skipped_skips c.args.bytes.now c.args.at _ e }

pub returns-then-owed-bytes : goal.returns-then-owed-bytes
returns-then-owed-bytes c =
    let i = c.loop-owed.invariant.1 in
    let e = too_many c.args.bytes.now c.loop-owed.end c.loop-owed.owed _ c.in_ok-head.head c.in_ok-head.ensures (omega arith) i.0 i.1 i.2 (omega arith) in
    record { passes = e; skips = skipped_skips c.args.bytes.now c.args.at _ e }

pub loop-owed-preserved : goal.loop-owed-preserved
loop-owed-preserved c =
    let i = c.loop-owed.invariant.1 in
    (omega arith, goes_on c.args.bytes.now c.loop-owed.end c.loop-owed.owed _ c.in_ok-head.head c.in_ok-head.ensures (omega arith) i.0 i.1 i.2 (omega arith))

pub returns : goal.returns
returns c =
    let i = c.loop-owed.invariant.1 in
    let e = none_owed c.args.bytes.now c.loop-owed.end c.loop-owed.owed _ i.0 (omega arith) i.2 in
    record { passes = e; skips = skipped_skips c.args.bytes.now c.args.at _ e }
