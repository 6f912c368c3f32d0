-- Two numbers are the same where their values are.
use Rattle.std.proofs.Common.{◌≡◌, ℤ, ap, subst}
use denote.Struct.Props.{props}
use Rattle.numbers.specs.declared.number.Number.{Number, proper-type}

one_proof : (v : ℤ) → IsProp (proper-type v)
one_proof v = hlevel props

same_at : (v : ℤ) (p : proper-type v) (w : ℤ) → v ≡ w → (q : proper-type w) → ◌≡◌ {A = Number} (record { value = v; proper = p }) (record { value = w; proper = q })
same_at v p w e = subst (λ u. (q : proper-type u) → ◌≡◌ {A = Number} (record { value = v; proper = p }) (record { value = u; proper = q })) e (λ q. ap (λ (x : proper-type v). record { value = v; proper = x }) (one_proof v p q))

pub same_number : (a b : Number) → a.value ≡ b.value → a ≡ b
same_number a b e = same_at a.value a.proper b.value e b.proper
