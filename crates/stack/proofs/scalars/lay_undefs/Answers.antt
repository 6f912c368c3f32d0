use Rattle.std.proofs.Common.{◌+◌, ◌*◌, ◌<◌, ◌≤◌, length, refl, arith, rules}
use Rattle.stack.proofs.Undefs.{undefs_long, none_laid, one_laid, room_for_one}
use Rattle.stack.proofs.scalars.lay_undefs.Goals as goal

pub returns-then-not-has_room : goal.returns-then-not-has_room
returns-then-not-has_room c =
    let short : length c.args.store.now < c.args.top + 2 * c.args.count = search rules in
    (omega (arith, undefs_long c.args.count), refl)

pub loop-init : goal.loop-init
loop-init c =
    let room : c.args.top + 2 * c.args.count ≤ length c.args.store.now = search rules in
    none_laid c.args.store.now c.args.top (omega arith)

pub returns-in_err-end : goal.returns-in_err-end
returns-in_err-end c =
    let room : c.args.top + 2 * c.args.count ≤ length c.args.store.now = search rules in
    absurd (room_for_one c.args.store.now c.loop.store c.args.top c.loop.counter c.loop.end c.loop.invariant _ c.args.count c.loop.auto.store room c.loop-test.true c.in_err-end.ensures)

pub loop-preserved : goal.loop-preserved
loop-preserved c = one_laid c.args.store.now c.loop.store c.args.top c.loop.counter c.loop.end c.loop.invariant _ _ c.loop.auto.store c.in_ok-end.ensures
