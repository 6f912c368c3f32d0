-- What the answer of the check means.
use Rattle.std.proofs.Common.{◌≡◌, ℕ, ◌≤◌, cond, ◌⊎◌, List, length, Ok, Err, Result, sym, ap, ◌∙◌, inl, inr}
use Rattle.std.proofs.lemmas.Bool.{le-leb}
use Rattle.values.specs.declared.refusal.Refusal.{Refusal}
use Rattle.values.specs.declared.refusal.Refusal.TheVariants.{Memory, Oversize}
use Rattle.language.specs.declared.program.Program.{Program}
use Rattle.language.specs.Syntax.{Module}
use Rattle.language.specs.Typing.{WellTyped}
use Rattle.verdict.specs.Outcomes.{accepted, refused}
use Rattle.verdict.specs.Modules.{module_at, verdict}
use Rattle.verdict.specs.Exactness.{Bytes, Encodes}
use Rattle.verdict.proofs.Spans.{not_accepted}
use Rattle.verdict.proofs.SoundModules.{verdict_sound}
use Rattle.verdict.proofs.Exact.{exact}
use Rattle.module_check.specs.Checking.{Checked, Means}

pub few_bytes : (bs : List ℕ) → length bs ≤ 16384 → verdict bs ≡ module_at bs
few_bytes bs h = ap (λ b. cond b (module_at bs) (refused Oversize)) (le-leb (length bs) 16384 h)

pub passed : (bs : List ℕ) → Bytes bs → length bs ≤ 16384 → (m : Module) (q : ℕ) → module_at bs ≡ accepted m q → (verdict bs ≡ accepted m (length bs)) × WellTyped m
passed bs bytes h m q e =
    let s = verdict_sound bs bytes m q (few_bytes bs h ∙ e) in
    (few_bytes bs h ∙ (e ∙ ap (accepted m) s.3), s.2)

pub meaning : (bs : List ℕ) → Bytes bs → (before behind : Program) (r : Result Unit Refusal) → Checked bs before behind r → Means bs behind r
meaning bs bytes before behind (Ok u) c = (c.0, (exact bs bytes c.0).0 (length bs, c.1), c.2)
meaning bs bytes before behind (Err e) c = go c.1
  where
    go : (e ≡ Memory) ⊎ (verdict bs ≡ refused e) → (e ≡ Memory) ⊎ ((m : Module) → Encodes bs m → ⊥)
    go (inl x) = inl x
    go (inr x) = inr (λ m h. not_accepted e m (length bs) (sym x ∙ (exact bs bytes m).1 h))
