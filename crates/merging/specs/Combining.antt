-- An operation's laws are those of its operator.
use Rattle.std.specs.Prelude.{◌≡◌, ℕ}
use Rattle.std.proofs.Common.{sym, ap, ◌∙◌}
use Rattle.merging.specs.Operators.{Sized, Laws}
use Rattle.merging.specs.Operations.{combining, OperationLaws}
use Rattle.merging.specs.Free.{FreeLaws, start_kept_by, free_laws}

module _ {V : Type 0} {neutral : V} {combine : V → V → V} (laws : OperationLaws neutral combine) where
  pub combining_free : FreeLaws (combining neutral combine)
  combining_free = record {
    assoc = laws.assoc;
    comm = laws.comm;
    start_kept = laws.neutral_kept;
    tally_kept = λ p. sym (laws.assoc neutral neutral p) ∙ ap (λ n. combine n p) laws.neutral_kept;
  }

  pub combining_laws : Laws (combining neutral combine)
  combining_laws = free_laws combining_free

  -- The neutral value changes no tally of parts.
  pub neutral_kept_by : {n : ℕ} {v : V} → Sized (combining neutral combine) n v → combine neutral v ≡ v
  neutral_kept_by = start_kept_by combining_free
