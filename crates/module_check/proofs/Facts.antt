-- Facts on lists of types that the reading functions share.
use Rattle.std.proofs.Common.{◌≡◌, subst, ltb, ℕ, ◌-◌, ◌<◌, ◌≤◌, Bool, true, false, List, ◌++◌, length, get_or, take, drop, replicate, Some, sym, ap, ◌∙◌, ap₂, inl, inr, arith}
use lib.ListN.{length-replicate}
use Rattle.std.specs.List.{slice_get}
use Rattle.std.proofs.lemmas.List.{take_at, take_all, drop-replicate, length-map, get_or-map}
use Rattle.std.proofs.lemmas.Option.{slice_get_read}
use borrow.Author.Tests.{ltb-true}
use Rattle.language.specs.Sorts.{same}
use Rattle.verdict.specs.Outcomes.{Out, accepted, refused, after, judged, each}
use Rattle.verdict.proofs.Spans.{not_accepted}
use Rattle.values.specs.declared.refusal.Refusal.{Refusal}
use Rattle.values.specs.declared.members.Members.{Members}
use Rattle.values.specs.Rows.{used}
use Rattle.verdict.specs.Bodies.{members_of}
use Rattle.verdict.proofs.Each.{Going, going_fails, going_all}
use Rattle.verdict.proofs.Members.{members_zeroed}
use Rattle.language.specs.declared.function.Function as code
use Rattle.module_check.specs.Views.{seen, seen_all}
use Rattle.module_check.specs.Reading.{Declines}

-- What fails first fails the whole.
pub declines_after : {A B : Type 0} (o : Out A) (f : A → ℕ → Out B) (e : Refusal) → Declines o e → Declines (after o f) e
declines_after o f e (inl m) = inl m
declines_after o f e (inr h) = inr (ap (λ z. after z f) h)

pub going_declines : {A B : Type 0} (f : A → ℕ → Out B) (xs : List A) (start i place : ℕ) (d : A) (done : List B) (e : Refusal) → i < length xs → Declines (f (get_or xs i d) place) e → Going f xs start i done place → Declines (each f xs start) e
going_declines f xs start i place d done e lt (inl m) g = inl m
going_declines f xs start i place d done e lt (inr h) g = inr (going_fails f xs start i place d done e lt h g)

-- A test that fails is the same refusal, whatever would be made where it passes.
pub judged_else : {A B D : Type 0} (o : Out A) (v : Refusal) (test : A → Bool) (f : A → B) (g : A → D) (e : Refusal) → Declines (after o (λ a q. judged v (test a) (f a) q)) e → Declines (after o (λ a q. judged v (test a) (g a) q)) e
judged_else o v test f g e (inl m) = inl m
judged_else {A} {B} {D} o v test f g e (inr h) = inr (go o h)
  where
    tested : (b : Bool) (x : B) (y : D) (q : ℕ) → judged v b x q ≡ refused e → judged v b y q ≡ refused e
    tested true x y q h = absurd (not_accepted e x q (sym h))
    tested false x y q h = ap refused (let i : v ≡ e = cc in i)

    go : (o : Out A) → after o (λ a q. judged v (test a) (f a) q) ≡ refused e → after o (λ a q. judged v (test a) (g a) q) ≡ refused e
    go (accepted a q) h = tested (test a) (f a) (g a) q h
    go (refused w) h = ap refused (let i : w ≡ e = cc in i)

-- Places that are filled up to a count, with zeros behind, are members, and what was read.
pub filled : (f : Unit {0} → ℕ → Out ℕ) (n start i place : ℕ) (items : List ℕ) (m : Members) → n ≤ i → i ≤ n → length items ≡ n → Going f (replicate n tt) start i (take i items) place → m.numbers ≡ items ++ drop n (replicate 8 0) → m.count ≡ n → (each f (replicate n tt) start ≡ accepted (used m) place) × (m ≡ members_of (used m))
filled f n start i place items m below above long g e d =
    let front : items ≡ used m = sym (take_at items (drop n (replicate 8 0)) n long) ∙ ap₂ take (sym d) (sym e) in
    let read = going_all f (replicate n tt) start i place (take i items) (omega (arith, length-replicate {A = Unit {0}} n tt)) g in (
      read ∙ ap (λ z. accepted z place) (take_all i items (omega arith) ∙ front),
      sym (members_zeroed m (e ∙ (ap (λ z. items ++ z) (drop-replicate n 8 0) ∙ ap₂ (λ a k. a ++ replicate (8 - k) 0) front (sym d)))),
    )

-- What callers see of a function that was found at a place.
pub found_seen : (fs items : List code.Function) (i : ℕ) (f : code.Function) → items ≡ fs → true ≡ ltb i (length items) → f ≡ get_or items i f → slice_get (seen_all fs) i ≡ Some (seen f)
found_seen fs items i f same inside e =
    slice_get_read (seen_all fs) (length fs) i (seen f) (sym (length-map fs seen)) (subst (λ xs. i < length xs) same (ltb-true _ _ (sym inside)))
    (ap seen (e ∙ ap (λ xs. get_or xs i f) same) ∙ sym (get_or-map seen fs i f (seen f) (subst (λ xs. i < length xs) same (ltb-true _ _ (sym inside)))))
