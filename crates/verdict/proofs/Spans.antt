-- What it takes that reading succeeds, and where bytes stand in others.
use Rattle.std.proofs.Common.{◌≡◌, ℕ, zero, suc, ◌+◌, ◌<◌, Bool, true, false, ltb, List, [], ◌∷◌, ◌++◌, length, get_or, Some, None, Option, sym, refl, ap, ◌∙◌, subst, subst₂, add-zero, arith, length-append}
use Rattle.std.proofs.lemmas.List.{ext_get_or, append_assoc, length_push, get_or_at}
use Rattle.std.proofs.lemmas.Bool.{ltb-true, lt-ltb}
use Rattle.values.specs.declared.refusal.Refusal.{Refusal}
use Rattle.verdict.specs.Outcomes.{Out, accepted, refused, after, judged, passes, found, first_at, whole, body}

pub not_accepted : {A : Type 0} (w : Refusal) (a : A) (q : ℕ) → refused w ≡ accepted a q → ⊥
not_accepted w a q h = let z : ◌≡◌ {A = ℕ} 0 1 = cc in omega arith

pub not_none : {A : Type 0} (a : A) → None ≡ Some a → ⊥
not_none a h = let z : ◌≡◌ {A = ℕ} 0 1 = cc in omega arith

pub after_inv : {A B : Type 0} (o : Out A) (f : A → ℕ → Out B) (b : B) (q : ℕ) → after o f ≡ accepted b q → (a : A) × (r : ℕ) × (o ≡ accepted a r) × (f a r ≡ accepted b q)
after_inv (accepted a r) f b q h = (a, r, refl, h)
after_inv (refused w) f b q h = absurd (not_accepted w b q h)

pub accepted_inv : {A : Type 0} (a b : A) (q r : ℕ) → accepted a q ≡ accepted b r → (a ≡ b) × (q ≡ r)
accepted_inv a b q r h = (cc, cc)

pub judged_inv : {A : Type 0} (w : Refusal) (ok : Bool) (a : A) (next : ℕ) (b : A) (q : ℕ) → judged w ok a next ≡ accepted b q → (ok ≡ true) × (a ≡ b) × (next ≡ q)
judged_inv w true a next b q h = (refl, cc, cc)
judged_inv w false a next b q h = absurd (not_accepted w b q h)

pub passes_inv : (w : Refusal) (ok : Bool) (next : ℕ) (u : Unit {0}) (q : ℕ) → passes w ok next ≡ accepted u q → (ok ≡ true) × (next ≡ q)
passes_inv w ok next u q h = let j = judged_inv w ok tt next u q h in (j.0, j.2)

pub found_inv : {A : Type 0} (w : Refusal) (o : Option A) (next : ℕ) (b : A) (q : ℕ) → found w o next ≡ accepted b q → (o ≡ Some b) × (next ≡ q)
found_inv w (Some a) next b q h = (cc, cc)
found_inv w None next b q h = absurd (not_accepted w b q h)

pub whole_inv : (n : ℕ) (bs : List ℕ) (p : ℕ) (u : Unit {0}) (q : ℕ) → whole n bs p ≡ accepted u q → (p + n < length bs) × (p + (n + 1) ≡ q)
whole_inv n bs p u q h = let j = judged_inv _ (ltb (p + n) (length bs)) tt (p + (n + 1)) u q h in (ltb-true _ _ j.0, j.2)

pub first_inv : (bs : List ℕ) (p b q : ℕ) → first_at bs p ≡ accepted b q → (p < length bs) × (get_or bs p 0 ≡ b) × (p + 1 ≡ q)
first_inv bs p b q h = let j = judged_inv _ (ltb p (length bs)) (get_or bs p 0) (p + 1) b q h in (ltb-true _ _ j.0, j.1, j.2)

-- The bytes xs stand in bs from p on.
abbrev pub Stands : List ℕ → ℕ → List ℕ → Type 0
Stands bs p [] = Unit {0}
Stands bs p (x ∷ xs) = (p < length bs) × (get_or bs p 0 ≡ x) × Stands bs (p + 1) xs

pub record Span (bs : List ℕ) (p : ℕ) (xs : List ℕ) (q : ℕ) : Type 0 where
  pub stands : Stands bs p xs
  pub next : q ≡ p + length xs

pub span_nil : (bs : List ℕ) (p : ℕ) → Span bs p [] p
span_nil bs p = record { stands = tt; next = omega arith }

pub span_cons : {bs : List ℕ} {p : ℕ} {x : ℕ} {xs : List ℕ} {q : ℕ} → p < length bs → get_or bs p 0 ≡ x → Span bs (p + 1) xs q → Span bs p (x ∷ xs) q
span_cons h e s = record { stands = (h, e, s.stands); next = omega (arith, s.next) }

pub span_uncons : {bs : List ℕ} {p : ℕ} {x : ℕ} {xs : List ℕ} {q : ℕ} → Span bs p (x ∷ xs) q → (p < length bs) × (get_or bs p 0 ≡ x) × Span bs (p + 1) xs q
span_uncons s = (s.stands.0, s.stands.1, record { stands = s.stands.2; next = omega (arith, s.next) })

pub span_join : (bs : List ℕ) (p : ℕ) (xs ys : List ℕ) (q r : ℕ) → Span bs p xs q → Span bs q ys r → Span bs p (xs ++ ys) r
span_join bs p [] ys q r s t = let e : q ≡ p = omega (arith, s.next) in subst (λ z. Span bs z ys r) e t
span_join bs p (x ∷ xs) ys q r s t = let u = span_uncons s in span_cons u.0 u.1 (span_join bs (p + 1) xs ys q r u.2 t)

pub span_split : (bs : List ℕ) (p : ℕ) (xs ys : List ℕ) (r : ℕ) → Span bs p (xs ++ ys) r → (q : ℕ) × Span bs p xs q × Span bs q ys r
span_split bs p [] ys r s = (p, span_nil bs p, s)
span_split bs p (x ∷ xs) ys r s =
    let u = span_uncons s in
    let v = span_split bs (p + 1) xs ys r u.2 in
    (v.0, span_cons u.0 u.1 v.1, v.2)

pub span_end : (bs : List ℕ) (p q : ℕ) → Span bs p [] q → p ≡ q
span_end bs p q s = omega (arith, s.next)

-- The body of a record, byte by byte.
pub span_one : (bs : List ℕ) (p q : ℕ) → p + 1 < length bs → p + 2 ≡ q → Span bs (p + 1) (body bs p 1 ∷ []) q
span_one bs p q h e = record { stands = (h, refl, tt); next = omega arith }

pub span_two : (bs : List ℕ) (p q : ℕ) → p + 2 < length bs → p + 3 ≡ q → Span bs (p + 1) (body bs p 1 ∷ body bs p 2 ∷ []) q
span_two bs p q h e =
    let i : (p + 1) + 1 ≡ p + 2 = omega arith in
    record { stands = (omega arith, refl, (omega arith, ap (λ z. get_or bs z 0) i, tt)); next = omega arith }

pub span_four : (bs : List ℕ) (p q : ℕ) → p + 4 < length bs → p + 5 ≡ q → Span bs (p + 1) (body bs p 1 ∷ body bs p 2 ∷ body bs p 3 ∷ body bs p 4 ∷ []) q
span_four bs p q h e =
    let i : (p + 1) + 1 ≡ p + 2 = omega arith in
    let j : ((p + 1) + 1) + 1 ≡ p + 3 = omega arith in
    let k : (((p + 1) + 1) + 1) + 1 ≡ p + 4 = omega arith in
    record { stands = (omega arith, refl, (omega arith, ap (λ z. get_or bs z 0) i, (omega arith, ap (λ z. get_or bs z 0) j, (omega arith, ap (λ z. get_or bs z 0) k, tt)))); next = omega arith }

pub whole_found : (n : ℕ) (bs : List ℕ) (p : ℕ) → p + n < length bs → whole n bs p ≡ accepted tt (p + (n + 1))
whole_found n bs p h = rw (lt-ltb (p + n) (length bs) h)

pub first_found : (bs : List ℕ) (p b : ℕ) → p < length bs → get_or bs p 0 ≡ b → first_at bs p ≡ accepted b (p + 1)
first_found bs p b h e = rw (lt-ltb p (length bs) h, e)

-- A body that stands behind the kind byte is whole.
pub body_one : (bs : List ℕ) (p x : ℕ) (xs : List ℕ) (q : ℕ) → Span bs (p + 1) (x ∷ xs) q → (whole 1 bs p ≡ accepted tt (p + 2)) × (body bs p 1 ≡ x) × Span bs (p + 2) xs q
body_one bs p x xs q s =
    let u = span_uncons s in
    let i : (p + 1) + 1 ≡ p + 2 = omega arith in
    (whole_found 1 bs p u.0, u.1, subst (λ z. Span bs z xs q) i u.2)

pub body_two : (bs : List ℕ) (p x y : ℕ) (xs : List ℕ) (q : ℕ) → Span bs (p + 1) (x ∷ y ∷ xs) q → (whole 2 bs p ≡ accepted tt (p + 3)) × (body bs p 1 ≡ x) × (body bs p 2 ≡ y) × Span bs (p + 3) xs q
body_two bs p x y xs q s =
    let u = span_uncons s in
    let v = span_uncons u.2 in
    let i : (p + 1) + 1 ≡ p + 2 = omega arith in
    let j : ((p + 1) + 1) + 1 ≡ p + 3 = omega arith in
    (whole_found 2 bs p (omega (arith, v.0)), u.1, ap (λ z. get_or bs z 0) (sym i) ∙ v.1, subst (λ z. Span bs z xs q) j v.2)

pub body_four : (bs : List ℕ) (p a b c d : ℕ) (q : ℕ) → Span bs (p + 1) (a ∷ b ∷ c ∷ d ∷ []) q → (whole 4 bs p ≡ accepted tt (p + 5)) × (body bs p 1 ≡ a) × (body bs p 2 ≡ b) × (body bs p 3 ≡ c) × (body bs p 4 ≡ d) × (p + 5 ≡ q)
body_four bs p a b c d q s =
    let u = span_uncons s in
    let v = span_uncons u.2 in
    let w = span_uncons v.2 in
    let x = span_uncons w.2 in
    let i : p + 2 ≡ (p + 1) + 1 = omega arith in
    let j : p + 3 ≡ ((p + 1) + 1) + 1 = omega arith in
    let k : p + 4 ≡ (((p + 1) + 1) + 1) + 1 = omega arith in
    (whole_found 4 bs p (omega (arith, x.0)), u.1, ap (λ z. get_or bs z 0) i ∙ v.1, ap (λ z. get_or bs z 0) j ∙ w.1, ap (λ z. get_or bs z 0) k ∙ x.1, omega (arith, s.next))

span_inside : (bs : List ℕ) (p : ℕ) (xs : List ℕ) (i : ℕ) → Stands bs p xs → i < length xs → get_or bs (p + i) 0 ≡ get_or xs i 0
span_inside bs p [] i s h = absurd (omega arith)
span_inside bs p (x ∷ xs) zero s h = rw add-zero s.1
span_inside bs p (x ∷ xs) (suc i) s h =
    let e : p + suc i ≡ (p + 1) + i = omega arith in
    ap (λ z. get_or bs z 0) e ∙ span_inside bs (p + 1) xs i s.2 (omega arith)

-- What stands at the front and is as long is the whole, and the whole stands there.
pub span_all : (bs xs : List ℕ) (q : ℕ) → Span bs 0 xs q → q ≡ length bs → bs ≡ xs
span_all bs xs q s h =
    let long : length bs ≡ length xs = omega (arith, s.next) in
    ext_get_or 0 bs xs long (λ i l. let e : 0 + i ≡ i = omega arith in ap (λ z. get_or bs z 0) (sym e) ∙ span_inside bs 0 xs i s.stands (omega arith))

pub span_self : (ys xs : List ℕ) → Stands (ys ++ xs) (length ys) xs
span_self ys [] = tt
span_self ys (x ∷ xs) =
    let long : length (ys ++ x ∷ xs) ≡ length ys + (length xs + 1) = simp length-append (omega arith) in
    let same : (ys ++ x ∷ []) ++ xs ≡ ys ++ x ∷ xs = append_assoc ys (x ∷ []) xs in
    let more : length (ys ++ x ∷ []) ≡ length ys + 1 = length_push ys x in
    (omega arith, get_or_at ys x xs 0 (length ys) refl, subst₂ (λ b n. Stands b n xs) same more (span_self (ys ++ x ∷ []) xs))
