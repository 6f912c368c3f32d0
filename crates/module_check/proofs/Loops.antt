-- Loops over members, arms and ends: what has been read so far.
use Rattle.std.proofs.Common.{◌≡◌, ℕ, zero, suc, ◌+◌, ◌<◌, ◌≤◌, Bool, true, false, cond, ◌&&◌, eqb, List, [], ◌∷◌, ◌++◌, length, get_or, take, set, replicate, Some, None, Ok, Option, is_some, ltb, sym, refl, ap, ◌∙◌, ap₂, arith}
use lib.ListN.{length-replicate}
use Rattle.std.proofs.lemmas.List.{take_all, take_at, append_assoc, append-nil, length_push, take_more_set}
use Rattle.std.proofs.lemmas.Bool.Decides.{nat_tests}
use Rattle.std.proofs.lemmas.Bool.{ne_eqb, lt-ltb, false≢true}
use Rattle.std.specs.Option.{unwrap_or}
use Rattle.values.specs.declared.refusal.Refusal.{Refusal}
use Rattle.values.specs.declared.members.Members.{Members}
use Rattle.values.specs.declared.refusal.Refusal.TheVariants.{Clash}
use Rattle.values.specs.Rows.{used}
use Rattle.language.specs.declared.node.Kind.TheVariants as kind
use Rattle.language.specs.declared.node.Block.TheVariants as block
use Rattle.language.specs.declared.node.Node.{Node}
use Rattle.language.specs.Syntax.{Expr, LoopEnd, list, count, arity, arity_first}
use Rattle.language.specs.Sorts.{same, present}
use Rattle.language.specs.Tables.{node, flat, flat_all, flat_end, flat_ends}
use Rattle.verdict.specs.declared.kinds.Head.TheVariants as head
use Rattle.verdict.specs.Outcomes.{accepted, refused, after, judged}
use Rattle.verdict.specs.Judging.{Typed, typed, single, singles, firsts, agree, first_types, trees, ends}
use Rattle.verdict.specs.Expressions.{Reads, Ends, members_at, list_at, arms_at, ends_at}
use Rattle.verdict.proofs.Each.{Going, going_none, going_more, going_all}
use Rattle.verdict.proofs.Sound.{count_trees}
use Rattle.module_check.specs.Reading.{Declines, PartsRead, ArmsRead, EndsRead}
use Rattle.module_check.proofs.Facts.{declines_after, going_declines}

flat_push : (counts : List ℕ) (xs : List Typed) (a : Typed) → flat_all counts (trees (xs ++ a ∷ [])) ≡ flat_all counts (trees xs) ++ flat counts a.tree
unfolding flat_all
flat_push counts [] a = append-nil (flat counts a.tree)
flat_push counts (b ∷ xs) a = ap (λ z. flat counts b.tree ++ z) (flat_push counts xs a) ∙ sym (append_assoc (flat counts b.tree) (flat_all counts (trees xs)) (flat counts a.tree))

ends_push : (counts : List ℕ) (n : ℕ) (ls : List LoopEnd) (l : LoopEnd) → flat_ends counts n (ends (ls ++ l ∷ [])) ≡ flat_ends counts n (ends ls) ++ flat_end counts n l
unfolding flat_ends
ends_push counts n [] l = append-nil (flat_end counts n l)
ends_push counts n (k ∷ ls) l = ap (λ z. flat_end counts n k ++ z) (ends_push counts n ls l) ∙ sym (append_assoc (flat_end counts n k) (flat_ends counts n (ends ls)) (flat_end counts n l))

singles_push : (xs : List Typed) (a : Typed) → singles (xs ++ a ∷ []) ≡ (singles xs && present (single a.types))
singles_push [] a = grind (arith, nat_tests)
singles_push (b ∷ xs) a = let h = singles_push xs a in grind (arith, nat_tests)

firsts_push : (xs : List Typed) (a : Typed) → firsts (xs ++ a ∷ []) ≡ firsts xs ++ get_or a.types 0 0 ∷ []
firsts_push [] a = refl
firsts_push (b ∷ xs) a = ap (λ z. get_or b.types 0 0 ∷ z) (firsts_push xs a)

firsts_long : (xs : List Typed) → length (firsts xs) ≡ length xs
firsts_long [] = refl
firsts_long (x ∷ xs) = omega (arith, firsts_long xs)

agree_push : (ts : List ℕ) (xs : List Typed) (a : Typed) → agree ts (xs ++ a ∷ []) ≡ (agree ts xs && same ts a.types)
agree_push ts [] a = grind (arith, nat_tests)
agree_push ts (b ∷ xs) a = let h = agree_push ts xs a in grind (arith, nat_tests)

first_push : (xs : List Typed) (a : Typed) → 1 ≤ length xs → first_types (xs ++ a ∷ []) ≡ first_types xs
first_push [] a h = absurd (omega arith)
first_push (b ∷ xs) a h = refl

arity_push : (counts : List ℕ) (xs : List Typed) (a : Typed) → 1 ≤ length xs → arity_first counts (trees (xs ++ a ∷ [])) ≡ arity_first counts (trees xs)
unfolding arity_first
arity_push counts [] a h = absurd (omega arith)
arity_push counts (b ∷ xs) a h = refl

grown : (before nodes more : List Node) (x y : List Node) → nodes ≡ before ++ x → more ≡ nodes ++ y → (z : List Node) → z ≡ x ++ y → more ≡ before ++ z
grown before nodes more x y e f z g = f ∙ (ap (λ w. w ++ y) e ∙ (append_assoc before x y ∙ ap (λ w. before ++ w) (sym g)))

-- The members of a list.
abbrev pub Listing : List ℕ → Reads → List ℕ → (n start : ℕ) → List Node → (i : ℕ) → List ℕ → Bool → List Node → ℕ → Type 0
Listing counts ex Γ n start before i numbers flag nodes place =
    (xs : List Typed) × Going (λ (_ : Unit {0}) r. ex Γ r) (replicate n tt) start i xs place
    × (nodes ≡ before ++ flat_all counts (trees xs)) × (length xs ≡ i) × (flag ≡ singles xs) × (take i numbers ≡ firsts xs)

module _ (counts : List ℕ) (ex : Reads) (Γ : List ℕ) (n start : ℕ) (before : List Node) where
  pub listing_none : (numbers : List ℕ) → Listing counts ex Γ n start before 0 numbers true before start
  unfolding flat_all
  listing_none numbers = ([], going_none (λ (_ : Unit {0}) r. ex Γ r) (replicate n tt) start, sym (append-nil before), refl, refl, refl)

  pub listing_more : (i : ℕ) (numbers : List ℕ) (flag more : Bool) (nodes next : List Node) (place q t : ℕ) (e : Expr) (us : List ℕ) → Listing counts ex Γ n start before i numbers flag nodes place → i < n → i < length numbers → ex Γ place ≡ accepted (typed e us) q → next ≡ nodes ++ flat counts e → more ≡ (flag && present (single us)) → t ≡ get_or us 0 0 → Listing counts ex Γ n start before (i + 1) (set numbers i t) more next q
  listing_more i numbers flag more nodes next place q t e us L lt l x nn f h =
      let xs = L.0 in
      let a = typed e us in (
        xs ++ a ∷ [],
        going_more (λ (_ : Unit {0}) r. ex Γ r) (replicate n tt) start i place q tt a xs (omega (arith, length-replicate {A = Unit {0}} n tt)) x L.1,
        grown before nodes next (flat_all counts (trees xs)) (flat counts e) L.2 nn (flat_all counts (trees (xs ++ a ∷ []))) (flat_push counts xs a),
        omega (arith, length_push xs a, L.3),
        f ∙ (ap (λ b. b && present (single us)) L.4 ∙ sym (singles_push xs a)),
        take_more_set numbers i t l ∙ (ap₂ (λ y z. y ++ z ∷ []) L.5 h ∙ sym (firsts_push xs a)),
      )

  pub listing_fails : (p i : ℕ) (numbers : List ℕ) (flag : Bool) (nodes : List Node) (place : ℕ) (e : Refusal) → Listing counts ex Γ n start before i numbers flag nodes place → i < n → Declines (ex Γ place) e → Declines (list_at ex n Γ p start) e
  listing_fails p i numbers flag nodes place e L lt d =
      declines_after (members_at ex n Γ start) _ e (going_declines (λ (_ : Unit {0}) r. ex Γ r) (replicate n tt) start i place tt L.0 e (omega (arith, length-replicate {A = Unit {0}} n tt)) d L.1)

  members_are : (i : ℕ) (numbers : List ℕ) (flag : Bool) (nodes : List Node) (place : ℕ) (L : Listing counts ex Γ n start before i numbers flag nodes place) → n ≤ i → members_at ex n Γ start ≡ accepted L.0 place
  members_are i numbers flag nodes place L le = going_all (λ (_ : Unit {0}) r. ex Γ r) (replicate n tt) start i place L.0 (omega (arith, length-replicate {A = Unit {0}} n tt)) L.1

  pub listing_clash : (p i : ℕ) (numbers : List ℕ) (nodes : List Node) (place : ℕ) → Listing counts ex Γ n start before i numbers false nodes place → n ≤ i → list_at ex n Γ p start ≡ refused (Clash p)
  listing_clash p i numbers nodes place L le =
      let m = members_are i numbers false nodes place L le in
      let f = sym L.4 in
      rw (m, f)

  pub listing_done : (p i : ℕ) (numbers : List ℕ) (nodes : List Node) (place : ℕ) (rest : List ℕ) (m : Members) → Listing counts ex Γ n start before i numbers true nodes place → n ≤ i → i ≤ n → length numbers ≡ n → m.numbers ≡ numbers ++ rest → m.count ≡ n → PartsRead counts (head.List n) (list_at ex n Γ p start) before nodes place (Ok m)
  unfolding flat arity
  listing_done p i numbers nodes place rest m L le ge long e d =
      let a = members_are i numbers true nodes place L le in
      let f = sym L.4 in
      let u : firsts L.0 ≡ used m = sym L.5 ∙ (take_all i numbers (omega arith) ∙ (sym (take_at numbers rest m.count (omega (arith, d))) ∙ ap (take m.count) (sym e))) in
      let c : count (trees L.0) ≡ n = count_trees L.0 ∙ omega (arith, L.3) in (
        list (trees L.0),
        flat_all counts (trees L.0),
        rw (a, f) (ap (λ z. accepted (typed (list (trees L.0)) z) place) u),
        ap (λ k. node (kind.Block (block.List k)) (flat_all counts (trees L.0))) c,
        L.2,
        count_trees L.0 ∙ (sym (firsts_long L.0) ∙ ap length u),
      )

-- The types that the arms share, once there is one.
abbrev pub shared : Option Members → List ℕ
shared (Some m) = used m
shared None = []

pub first_shared : (first : Option Members) (m : Members) (i : ℕ) → is_some first ≡ ltb 0 i → used (unwrap_or first m) ≡ cond (eqb i 0) (used m) (shared first)
first_shared (Some f) m zero h = absurd (false≢true (sym h))
first_shared (Some f) m (suc i) h = ap (λ b. cond b (used m) (used f)) (sym (ne_eqb (suc i) 0 (λ z. omega arith)))
first_shared None m zero h = refl
first_shared None m (suc i) h = absurd (false≢true (h ∙ lt-ltb 0 (suc i) (omega arith)))

-- The arms of a tagcase; ts are the types of the first, once there is one.
abbrev pub Arming : List ℕ → Reads → List ℕ → List ℕ → (start : ℕ) → List Node → List ℕ → (i : ℕ) → Bool → List Node → ℕ → Type 0
Arming counts ex us Γ start before ts i flag nodes place =
    (xs : List Typed) × Going (λ u r. ex (Γ ++ u ∷ []) r) us start i xs place
    × (nodes ≡ before ++ flat_all counts (trees xs)) × (length xs ≡ i) × (flag ≡ agree ts xs)
    × (1 ≤ i → (first_types xs ≡ ts) × (arity_first counts (trees xs) ≡ length ts))

module _ (counts : List ℕ) (ex : Reads) (us Γ : List ℕ) (start : ℕ) (before : List Node) where
  pub arming_none : (ts : List ℕ) → Arming counts ex us Γ start before ts 0 true before start
  unfolding flat_all
  arming_none ts = ([], going_none (λ u r. ex (Γ ++ u ∷ []) r) us start, sym (append-nil before), refl, refl, λ h. absurd (omega arith))

  -- The first arm sets the types, and the others are held against them.
  told : (i : ℕ) (flag more : Bool) (e : Expr) (ts vs ws : List ℕ) (xs : List Typed) → length xs ≡ i → flag ≡ agree ts xs → (1 ≤ i → (first_types xs ≡ ts) × (arity_first counts (trees xs) ≡ length ts)) → arity counts e ≡ length vs → ws ≡ cond (eqb i 0) vs ts → more ≡ (flag && same ws vs) → (more ≡ agree ws (xs ++ typed e vs ∷ [])) × ((first_types (xs ++ typed e vs ∷ []) ≡ ws) × (arity_first counts (trees (xs ++ typed e vs ∷ [])) ≡ length ws))
  unfolding arity_first
  told zero flag more e ts vs ws [] l f k r w m = (m ∙ (ap (λ b. b && same ws vs) f ∙ sym (agree_push ws [] (typed e vs))), (sym w, r ∙ ap length (sym w)))
  told zero flag more e ts vs ws (x ∷ xs) l f k r w m = absurd (omega (arith, l))
  told (suc i) flag more e ts vs ws xs l f k r w m =
      let h = k (omega arith) in
      let some : 1 ≤ length xs = omega (arith, l) in
      let v : ws ≡ ts = w ∙ ap (λ b. cond b vs ts) (ne_eqb (suc i) 0 (λ z. omega arith)) in (
        m ∙ (ap (λ b. b && same ws vs) (f ∙ ap (λ z. agree z xs) (sym v)) ∙ sym (agree_push ws xs (typed e vs))),
        (first_push xs (typed e vs) some ∙ (h.0 ∙ sym v), arity_push counts xs (typed e vs) some ∙ (h.1 ∙ ap length (sym v))),
      )

  pub arming_more : (i : ℕ) (flag more : Bool) (nodes next : List Node) (place q : ℕ) (e : Expr) (ts vs ws : List ℕ) → Arming counts ex us Γ start before ts i flag nodes place → i < length us → ex (Γ ++ get_or us i 0 ∷ []) place ≡ accepted (typed e vs) q → next ≡ nodes ++ flat counts e → arity counts e ≡ length vs → ws ≡ cond (eqb i 0) vs ts → more ≡ (flag && same ws vs) → Arming counts ex us Γ start before ws (i + 1) more next q
  arming_more i flag more nodes next place q e ts vs ws L lt x nn r w m =
      let xs = L.0 in
      let a = typed e vs in
      let t = told i flag more e ts vs ws xs L.3 L.4 L.5 r w m in (
        xs ++ a ∷ [],
        going_more (λ u r. ex (Γ ++ u ∷ []) r) us start i place q 0 a xs lt x L.1,
        grown before nodes next (flat_all counts (trees xs)) (flat counts e) L.2 nn (flat_all counts (trees (xs ++ a ∷ []))) (flat_push counts xs a),
        omega (arith, length_push xs a, L.3),
        t.0,
        λ h. t.1,
      )

  pub arming_fails : (p i : ℕ) (flag : Bool) (nodes : List Node) (place : ℕ) (ts : List ℕ) (e : Refusal) → Arming counts ex us Γ start before ts i flag nodes place → i < length us → Declines (ex (Γ ++ get_or us i 0 ∷ []) place) e → Declines (after (arms_at ex us Γ start) (λ xs q. judged (Clash p) (agree (first_types xs) xs) xs q)) e
  arming_fails p i flag nodes place ts e L lt d =
      declines_after (arms_at ex us Γ start) _ e (going_declines (λ u r. ex (Γ ++ u ∷ []) r) us start i place 0 L.0 e lt d L.1)

  arms_are : (i : ℕ) (flag : Bool) (nodes : List Node) (place : ℕ) (ts : List ℕ) (L : Arming counts ex us Γ start before ts i flag nodes place) → length us ≤ i → arms_at ex us Γ start ≡ accepted L.0 place
  arms_are i flag nodes place ts L le = going_all (λ u r. ex (Γ ++ u ∷ []) r) us start i place L.0 le L.1

  pub arming_clash : (p i : ℕ) (nodes : List Node) (place : ℕ) (ts : List ℕ) → Arming counts ex us Γ start before ts i false nodes place → length us ≤ i → 1 ≤ i → after (arms_at ex us Γ start) (λ xs q. judged (Clash p) (agree (first_types xs) xs) xs q) ≡ refused (Clash p)
  arming_clash p i nodes place ts L le some =
      let a = arms_are i false nodes place ts L le in
      let f : agree (first_types L.0) L.0 ≡ false = ap (λ z. agree z L.0) (L.5 some).0 ∙ sym L.4 in
      rw (a, f)

  pub arming_done : (p i : ℕ) (nodes : List Node) (place : ℕ) (m : Members) → Arming counts ex us Γ start before (used m) i true nodes place → length us ≤ i → i ≤ length us → 1 ≤ i → ArmsRead counts p (length us) (arms_at ex us Γ start) before nodes place (Ok m)
  arming_done p i nodes place m L le ge some =
      (L.0, arms_are i true nodes place (used m) L le, ap (λ z. agree z L.0) (L.5 some).0 ∙ sym L.4, (L.5 some).0, L.2, omega (arith, L.3), (L.5 some).1)

-- The arms of a tagcase at the end of a loop.
abbrev pub Ending : List ℕ → Ends → (ts again us Γ : List ℕ) → (start : ℕ) → List Node → (i : ℕ) → List Node → ℕ → Type 0
Ending counts en ts again us Γ start before i nodes place =
    (ls : List LoopEnd) × Going (λ u r. en ts again (Γ ++ u ∷ []) r) us start i ls place
    × (nodes ≡ before ++ flat_ends counts (length ts) (ends ls)) × (length ls ≡ i)

module _ (counts : List ℕ) (en : Ends) (ts again us Γ : List ℕ) (start : ℕ) (before : List Node) where
  pub ending_none : Ending counts en ts again us Γ start before 0 before start
  unfolding flat_ends
  ending_none = ([], going_none (λ u r. en ts again (Γ ++ u ∷ []) r) us start, sym (append-nil before), refl)

  pub ending_more : (i : ℕ) (nodes next : List Node) (place q : ℕ) (l : LoopEnd) → Ending counts en ts again us Γ start before i nodes place → i < length us → en ts again (Γ ++ get_or us i 0 ∷ []) place ≡ accepted l q → next ≡ nodes ++ flat_end counts (length ts) l → Ending counts en ts again us Γ start before (i + 1) next q
  ending_more i nodes next place q l L lt x nn = (
    L.0 ++ l ∷ [],
    going_more (λ u r. en ts again (Γ ++ u ∷ []) r) us start i place q 0 l L.0 lt x L.1,
    grown before nodes next (flat_ends counts (length ts) (ends L.0)) (flat_end counts (length ts) l) L.2 nn (flat_ends counts (length ts) (ends (L.0 ++ l ∷ []))) (ends_push counts (length ts) L.0 l),
    omega (arith, length_push L.0 l, L.3),
  )

  pub ending_fails : (i : ℕ) (nodes : List Node) (place : ℕ) (e : Refusal) → Ending counts en ts again us Γ start before i nodes place → i < length us → Declines (en ts again (Γ ++ get_or us i 0 ∷ []) place) e → Declines (ends_at en ts again us Γ start) e
  ending_fails i nodes place e L lt d = going_declines (λ u r. en ts again (Γ ++ u ∷ []) r) us start i place 0 L.0 e lt d L.1

  pub ending_done : (i : ℕ) (nodes : List Node) (place : ℕ) → Ending counts en ts again us Γ start before i nodes place → length us ≤ i → i ≤ length us → EndsRead counts (length ts) (length us) (ends_at en ts again us Γ start) before nodes place (Ok tt)
  ending_done i nodes place L le ge =
      (L.0, going_all (λ u r. en ts again (Γ ++ u ∷ []) r) us start i place L.0 le L.1, L.2, omega (arith, L.3))
