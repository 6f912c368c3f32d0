-- A saturating operation whose exact value fits 64 bits is exact.
use Rattle.std.proofs.Common.{◌≡◌, ℤ, pos, negsuc, ap, ◌∙◌, arith, w64, SFits, to_z, of_z}
use Rattle.std.specs.Int.{saturate_to_bits}
use Rattle.std.proofs.lemmas.Int.{to_z-of_z}

saturated_is : (z : ℤ) → SFits w64 z → saturate_to_bits 63 z ≡ z
saturated_is (pos n) f = ap pos (omega (arith, f.sfits))
saturated_is (negsuc n) f = ap negsuc (omega (arith, f.sfits))

pub not_cut : (z r : ℤ) → SFits w64 z → r ≡ saturate_to_bits 63 z → to_z w64 (of_z w64 r) ≡ z
not_cut z r f e = ap (λ x. to_z w64 (of_z w64 x)) (e ∙ saturated_is z f) ∙ to_z-of_z w64 z f
