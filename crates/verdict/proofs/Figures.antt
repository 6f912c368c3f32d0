-- Verdicts by computing.
use Rattle.std.proofs.Common.{◌≡◌, ℕ, List, [], ◌∷◌, refl}
use Rattle.values.specs.declared.refusal.Refusal.TheVariants.{Clash, Cut}
use Rattle.verdict.specs.Outcomes.{Out, accepted, refused, each}
use Rattle.verdict.specs.Bodies.{uses_at, members_of}
use Rattle.verdict.specs.Expressions.{expr}
use Rattle.verdict.specs.Modules.{verdict, rows_at, functions_at}

passed : {A : Type 0} → Out A → List ℕ
passed (accepted a q) = q ∷ []
passed (refused w) = []

add_one : passed (verdict (0x01 ∷ 0 ∷ 1 ∷ 0x20 ∷ 1 ∷ 1 ∷ 0x10 ∷ 1 ∷ 0x10 ∷ 1 ∷ 0x35 ∷ 1 ∷ 0x34 ∷ 0 ∷ 0x31 ∷ 0 ∷ 0 ∷ 0 ∷ 1 ∷ [])) ≡ 19 ∷ []
unfolding passed each uses_at members_of expr rows_at functions_at
add_one = refl

and_one : verdict (0x01 ∷ 0 ∷ 1 ∷ 0x20 ∷ 1 ∷ 1 ∷ 0x10 ∷ 1 ∷ 0x10 ∷ 1 ∷ 0x35 ∷ 0x10 ∷ 0x34 ∷ 0 ∷ 0x31 ∷ 0 ∷ 0 ∷ 0 ∷ 1 ∷ []) ≡ refused (Clash 10)
unfolding each uses_at members_of expr rows_at functions_at
and_one = refl

too_long : verdict (0x01 ∷ 0 ∷ 1 ∷ 0x20 ∷ 1 ∷ 1 ∷ 0x10 ∷ 1 ∷ 0x10 ∷ 1 ∷ 0x34 ∷ 0 ∷ 7 ∷ []) ≡ refused (Cut 12)
unfolding each uses_at members_of expr rows_at functions_at
too_long = refl
