-- What an accepted step tells, and when a step is accepted.
use Rattle.std.proofs.Common.{◌≡◌, ℕ, ◌+◌, ◌<◌, ◌≤◌, Bool, true, false, cond, eqb, ltb, leb, ◌⊎◌, List, length, Some, None, Ok, Err, Option, Result, sym, refl, ap, ◌∙◌, inl, inr, ⊎_elim, arith}
use Rattle.std.proofs.lemmas.Bool.{ltb-true, leb-true, eqb-true, lt-ltb, le-leb, eq-eqb, ne_eqb}
use Rattle.values.specs.declared.refusal.Refusal.{Refusal}
use Rattle.values.specs.declared.refusal.Refusal.TheVariants.{Cut, Clash}
use Rattle.value_reader.specs.Bytes.{byte}
use Rattle.value_reader.specs.Reading.{Verdict, given, and_then, admitted, fault_at, opens, after}

pub given_inv : {A : Type 0} (b : Bool) (e : Refusal) (r : Result A Refusal) (x : A) → given b e r ≡ Ok x → (b ≡ true) × (r ≡ Ok x)
given_inv true e r x h = (refl, h)
given_inv false e r x h = absurd (let y : ⊥ = cc in y)

pub given_ok : {A : Type 0} (b : Bool) (e : Refusal) (r : Result A Refusal) → b ≡ true → given b e r ≡ r
given_ok b e r h = ap (λ t. given t e r) h

pub then_inv : (v : Verdict) (f : ℕ → Verdict) (end : ℕ) → and_then v f ≡ Ok end → (q : ℕ) × (v ≡ Ok q) × (f q ≡ Ok end)
then_inv (Ok q) f end h = (q, refl, h)
then_inv (Err e) f end h = absurd (let y : ⊥ = cc in y)

pub after_inv : (o : Result (Option ℕ) Refusal) (body : Verdict) (end : ℕ) → after o body ≡ Ok end → (o ≡ Ok (Some end)) ⊎ ((o ≡ Ok None) × (body ≡ Ok end))
after_inv (Ok None) body end h = inr (refl, h)
after_inv (Ok (Some q)) body end h = inl (ap Ok (ap Some (let z : q ≡ end = cc in z)))
after_inv (Err e) body end h = absurd (let y : ⊥ = cc in y)

cond_inv : {A : Type 0} (b : Bool) (x y z : A) → cond b x y ≡ z → ((b ≡ true) × (x ≡ z)) ⊎ ((b ≡ false) × (y ≡ z))
cond_inv true x y z h = inl (refl, h)
cond_inv false x y z h = inr (refl, h)

-- The head of a record that was accepted.
module _ (own size : ℕ) (arithmetic : Bool) (bs : List ℕ) (at : ℕ) where
  fault_none : fault_at arithmetic bs at ≡ Ok None → ⊥
  fault_none h =
      let p = given_inv (leb (at + 2) (length bs)) (Cut at) _ None h in
      let q = given_inv (admitted arithmetic (byte bs (at + 1))) (Clash at) (Ok (Some (at + 2))) None p.1 in
      let e = q.1 in
      (let y : ⊥ = cc in y)

  pub opens_own : opens own size arithmetic bs at ≡ Ok None → (at < length bs) × (byte bs at ≡ own) × (at + size ≤ length bs)
  opens_own h =
      let p = given_inv (ltb at (length bs)) _ _ None h in
      let here = ltb-true at (length bs) p.0 in
      ⊎_elim
      (λ k. absurd (fault_none k.1))
      (λ k.
      let q = given_inv (eqb (byte bs at) own) (Clash at) _ None k.1 in
      let r = given_inv (leb (at + size) (length bs)) (Cut at) (Ok None) None q.1 in
      (here, eqb-true _ _ q.0, leb-true _ _ r.0))
      (cond_inv (eqb (byte bs at) 0x52) _ _ _ p.1)

  pub opens_fault : (end : ℕ) → opens own size arithmetic bs at ≡ Ok (Some end)
      → (byte bs at ≡ 0x52) × (at + 2 ≤ length bs) × (admitted arithmetic (byte bs (at + 1)) ≡ true) × (end ≡ at + 2)
  opens_fault end h =
      let p = given_inv (ltb at (length bs)) _ _ (Some end) h in
      ⊎_elim
      (λ k.
      let q = given_inv (leb (at + 2) (length bs)) (Cut at) _ (Some end) k.1 in
      let r = given_inv (admitted arithmetic (byte bs (at + 1))) (Clash at) (Ok (Some (at + 2))) (Some end) q.1 in
      let e = r.1 in
      (eqb-true _ _ k.0, leb-true _ _ q.0, r.0, (let z : end ≡ at + 2 = cc in z)))
      (λ k.
      let q = given_inv (eqb (byte bs at) own) (Clash at) _ (Some end) k.1 in
      let r = given_inv (leb (at + size) (length bs)) (Cut at) (Ok None) (Some end) q.1 in
      let e = r.1 in
      absurd (let y : ⊥ = cc in y))
      (cond_inv (eqb (byte bs at) 0x52) _ _ _ p.1)

  -- The head of a record that is accepted.
  pub own_opens : (own ≡ 0x52 → ⊥) → at < length bs → byte bs at ≡ own → at + size ≤ length bs → opens own size arithmetic bs at ≡ Ok None
  own_opens apart here kind whole =
      given_ok (ltb at (length bs)) _ _ (lt-ltb at (length bs) here)
      ∙ ap (λ b. cond b (fault_at arithmetic bs at) (given (eqb (byte bs at) own) (Clash at) (given (leb (at + size) (length bs)) (Cut at) (Ok None)))) (ne_eqb (byte bs at) 0x52 (λ e. apart (sym kind ∙ e)))
      ∙ given_ok (eqb (byte bs at) own) _ _ (eq-eqb _ _ kind)
      ∙ given_ok (leb (at + size) (length bs)) _ _ (le-leb _ _ whole)

  pub fault_opens : byte bs at ≡ 0x52 → at + 2 ≤ length bs → admitted arithmetic (byte bs (at + 1)) ≡ true → opens own size arithmetic bs at ≡ Ok (Some (at + 2))
  fault_opens kind whole code =
      given_ok (ltb at (length bs)) _ _ (lt-ltb at (length bs) (omega arith))
      ∙ ap (λ b. cond b (fault_at arithmetic bs at) (given (eqb (byte bs at) own) (Clash at) (given (leb (at + size) (length bs)) (Cut at) (Ok None)))) (eq-eqb _ _ kind)
      ∙ given_ok (leb (at + 2) (length bs)) _ _ (le-leb _ _ whole)
      ∙ given_ok (admitted arithmetic (byte bs (at + 1))) _ _ code
