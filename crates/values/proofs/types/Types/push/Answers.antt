use Rattle.std.proofs.Common.{◌≡◌, ◌+◌, ◌<◌, true, length, vec_items, sym, subst, arith}
use Rattle.values.specs.Rows.{all_below, uses}
use Rattle.values.proofs.Soundness.{sound_pushed}
use Rattle.values.proofs.types.Types.push.Goals as goal

pub invariant_of-self : goal.invariant_of-self
invariant_of-self c =
    let rows = vec_items c.args.self.now.rows in
    let few : length rows < 60 = omega (arith, c.args.self.now.rows.ok.0, c.len.ensures) in
    let next : c.len-2.result + 2 ≡ length rows + 2 = omega (arith, c.args.self.now.rows.ok.0, c.len-2.ensures) in
    record {
      lawful = sound_pushed rows _ c.args.row _ c.push.ensures.items c.args.self.now.lawful few
          (subst (λ n. all_below n (uses c.args.row) ≡ true) next (sym c.if-not-uses_below.ensures));
    }
