-- What the tests on lists of types tell.
use Rattle.std.proofs.Common.{◌≡◌, ℕ, true, eqb, List, [], ◌∷◌, Some, None, Option, sym, refl, ap, ◌∙◌}
use Rattle.std.proofs.lemmas.Bool.{and_parts, and_from, eqb-true, eq-eqb, false≢true}
use Rattle.language.specs.Sorts.{same}
use Rattle.language.specs.Typing.{Every, Signature}
use Rattle.verdict.specs.Judging.{single, at_one, of_one, matches, is_one, every, all_of, parameters_in, tag_in}
use Rattle.verdict.proofs.Spans.{not_none}

pub same_refl : (xs : List ℕ) → same xs xs ≡ true
same_refl [] = refl
same_refl (x ∷ xs) = and_from (eqb x x) (same xs xs) (eq-eqb x x refl) (same_refl xs)

pub same_true : (xs ys : List ℕ) → same xs ys ≡ true → xs ≡ ys
same_true [] [] h = refl
same_true [] (y ∷ ys) h = absurd (false≢true h)
same_true (x ∷ xs) [] h = absurd (false≢true h)
same_true (x ∷ xs) (y ∷ ys) h =
    let p = and_parts (eqb x y) (same xs ys) h in
    let e = eqb-true x y p.0 in
    let r = same_true xs ys p.1 in
    cc

pub is_same : (xs ys : List ℕ) → xs ≡ ys → same xs ys ≡ true
is_same xs ys e = ap (same xs) (sym e) ∙ same_refl xs

pub single_inv : (ts : List ℕ) (t : ℕ) → single ts ≡ Some t → ts ≡ t ∷ []
single_inv [] t h = absurd (not_none t h)
single_inv (u ∷ []) t h = cc
single_inv (u ∷ (v ∷ ts)) t h = absurd (not_none t h)

at_one_inv : {A : Type 0} (o : Option ℕ) (of : ℕ → Option A) (a : A) → at_one o of ≡ Some a → (t : ℕ) × (o ≡ Some t) × (of t ≡ Some a)
at_one_inv (Some t) of a h = (t, refl, h)
at_one_inv None of a h = absurd (not_none a h)

pub of_one_inv : {A : Type 0} (of : ℕ → Option A) (ts : List ℕ) (a : A) → of_one of ts ≡ Some a → (t : ℕ) × (ts ≡ t ∷ []) × (of t ≡ Some a)
of_one_inv of ts a h = let x = at_one_inv (single ts) of a h in (x.0, single_inv ts x.0 x.1, x.2)

pub matches_inv : (o : Option (List ℕ)) (ts : List ℕ) → matches o ts ≡ true → o ≡ Some ts
matches_inv (Some us) ts h = ap Some (same_true us ts h)
matches_inv None ts h = absurd (false≢true h)

pub matches_is : (o : Option (List ℕ)) (ts : List ℕ) → o ≡ Some ts → matches o ts ≡ true
matches_is o ts e = ap (λ z. matches z ts) e ∙ same_refl ts

pub is_one_inv : (o : Option ℕ) (ts : List ℕ) → is_one o ts ≡ true → (u : ℕ) × (o ≡ Some u) × (ts ≡ u ∷ [])
is_one_inv (Some u) ts h = (u, refl, sym (same_true (u ∷ []) ts h))
is_one_inv None ts h = absurd (false≢true h)

pub is_one_is : (o : Option ℕ) (u : ℕ) → o ≡ Some u → is_one o (u ∷ []) ≡ true
is_one_is o u e = ap (λ z. is_one z (u ∷ [])) e ∙ same_refl (u ∷ [])

pub every_inv : (u : ℕ) (ts : List ℕ) → every u ts ≡ true → Every u ts
every_inv u [] h = tt
every_inv u (t ∷ ts) h = let p = and_parts (eqb t u) (every u ts) h in (eqb-true t u p.0, every_inv u ts p.1)

pub every_is : (u : ℕ) (ts : List ℕ) → Every u ts → every u ts ≡ true
every_is u [] h = refl
every_is u (t ∷ ts) h = and_from (eqb t u) (every u ts) (eq-eqb t u h.0) (every_is u ts h.1)

pub all_of_inv : (o : Option ℕ) (ts : List ℕ) → all_of o ts ≡ true → (u : ℕ) × (o ≡ Some u) × Every u ts
all_of_inv (Some u) ts h = (u, refl, every_inv u ts h)
all_of_inv None ts h = absurd (false≢true h)

pub all_of_is : (o : Option ℕ) (u : ℕ) (ts : List ℕ) → o ≡ Some u → Every u ts → all_of o ts ≡ true
all_of_is o u ts e h = ap (λ z. all_of z ts) e ∙ every_is u ts h

pub parameters_inv : (o : Option Signature) (ts : List ℕ) → parameters_in o ≡ Some ts → (s : Signature) × (o ≡ Some s) × (s.parameters ≡ ts)
parameters_inv (Some s) ts h = (s, refl, cc)
parameters_inv None ts h = absurd (not_none ts h)

pub tag_inv : (o : Option (List ℕ)) (tag u : ℕ) → tag_in o tag ≡ Some u → (us : List ℕ) × (o ≡ Some us) × (tag_in (Some us) tag ≡ Some u)
tag_inv (Some us) tag u h = (us, refl, h)
tag_inv None tag u h = absurd (not_none u h)
