-- Members from a list of numbers.
use Rattle.std.proofs.Common.{◌≡◌, ℕ, ◌-◌, true, leb, List, ◌++◌, length, take, replicate, sym, refl, ap, ◌∙◌, subst, ap₂, arith, length-take}
use denote.Struct.Props.{props}
use Rattle.std.proofs.lemmas.List.{take_at}
use Rattle.std.proofs.lemmas.Bool.{and_from, le-leb}
use Rattle.numbers.proofs.Judging.{by_true}
use Rattle.values.specs.declared.members.Members.{Members, counted-type}
use Rattle.values.specs.Rows.{used}
use Rattle.language.specs.Typing.{Few, Zeroed}
use Rattle.verdict.specs.Bodies.{few, members_of, members_counted}

pub few_true : (n : ℕ) → Few n → few n ≡ true
few_true n h = and_from (leb 1 n) (leb n 8) (le-leb 1 n h.some) (le-leb n 8 h.most)

one_proof : (numbers : List ℕ) (count : ℕ) → IsProp (counted-type numbers count)
one_proof numbers count = hlevel props

same_at : (v : List ℕ) (n : ℕ) (p : counted-type v n) (w : List ℕ) (k : ℕ) → v ≡ w → n ≡ k → (q : counted-type w k) → ◌≡◌ {A = Members} (record { numbers = v; count = n; counted = p }) (record { numbers = w; count = k; counted = q })
same_at v n p w k e d =
    subst (λ u. (q : counted-type u k) → ◌≡◌ {A = Members} (record { numbers = v; count = n; counted = p }) (record { numbers = u; count = k; counted = q })) e
    (subst (λ j. (q : counted-type v j) → ◌≡◌ {A = Members} (record { numbers = v; count = n; counted = p }) (record { numbers = v; count = j; counted = q })) d
    (λ q. ap (λ (x : counted-type v n). record { numbers = v; count = n; counted = x }) (one_proof v n p q)))

-- Members are the same where their numbers and their count are.
pub same_members : (a b : Members) → a.numbers ≡ b.numbers → a.count ≡ b.count → a ≡ b
same_members a b e d = same_at a.numbers a.count a.counted b.numbers b.count e d b.counted

pub members_of_is : (m : Members) (ns : List ℕ) → m.numbers ≡ ns ++ replicate (8 - length ns) 0 → m.count ≡ length ns → members_of ns ≡ m
unfolding members_of
members_of_is m ns e d =
    let f : Few (length ns) = record { some = omega (arith, m.counted.0, d); most = omega (arith, m.counted.1, d) } in
    by_true (few (length ns)) _ _ m (few_true (length ns) f)
    (λ x. same_members (record { numbers = ns ++ replicate (8 - length ns) 0; count = length ns; counted = members_counted ns x }) m (sym e) (sym d))

-- Numbers and their members.
pub used_long : (m : Members) → length (used m) ≡ m.count
used_long m = omega (arith, length-take m.count m.numbers, m.counted.1, m.counted.2)

pub members_few : (m : Members) → Few (length (used m))
members_few m = let e = used_long m in record { some = omega (arith, m.counted.0); most = omega (arith, m.counted.1) }

pub members_zeroed : (m : Members) → Zeroed m → members_of (used m) ≡ m
members_zeroed m z =
    let e = used_long m in
    members_of_is m (used m) (z ∙ ap (λ n. used m ++ replicate (8 - n) 0) (sym e)) (sym e)

made : (ns : List ℕ) → few (length ns) ≡ true → (m : Members) × (m.numbers ≡ ns ++ replicate (8 - length ns) 0) × (m.count ≡ length ns)
made ns e = (record { numbers = ns ++ replicate (8 - length ns) 0; count = length ns; counted = members_counted ns e }, refl, refl)

pub used_members_of : (ns : List ℕ) → Few (length ns) → used (members_of ns) ≡ ns
used_members_of ns f =
    let m = made ns (few_true (length ns) f) in
    ap used (members_of_is m.0 ns m.1 m.2) ∙ (ap₂ take m.2 m.1 ∙ take_at ns (replicate (8 - length ns) 0) (length ns) refl)

pub zeroed_members_of : (ns : List ℕ) → Few (length ns) → Zeroed (members_of ns)
zeroed_members_of ns f =
    let m = made ns (few_true (length ns) f) in
    let u = used_members_of ns f in
    let is = members_of_is m.0 ns m.1 m.2 in
    ap (λ (x : Members). x.numbers) is ∙ (m.1 ∙ ap₂ (λ a n. a ++ replicate (8 - n) 0) (sym u) (sym m.2 ∙ ap (λ (x : Members). x.count) (sym is)))
