-- Whatever the verdict accepts is what the bytes encode, and typed.
use Rattle.std.proofs.Common.{◌≡◌, ℕ, zero, suc, ◌+◌, ◌<◌, ◌≤◌, max, Bool, true, false, ◌&&◌, eqb, leb, List, [], ◌∷◌, ◌++◌, length, get_or, Some, sym, refl, ap, ◌∙◌, subst, arith}
use Rattle.std.specs.List.{slice_get}
use Rattle.std.proofs.lemmas.Bool.{and_parts, leb-true, eqb-true, false≢true, true≢false}
use Rattle.values.specs.declared.members.Members.{Members}
use Rattle.values.specs.declared.refusal.Refusal.TheVariants.{Strange, Deep, Undeclared, Clash}
use Rattle.values.specs.Rows.{used}
use Rattle.language.specs.declared.merge.Merge.{Merge}
use Rattle.language.specs.declared.node.Leaf.{Leaf}
use Rattle.language.specs.declared.node.Leaf.TheVariants as leaf
use Rattle.language.specs.declared.node.One.{One}
use Rattle.language.specs.declared.node.One.TheVariants as one
use Rattle.language.specs.declared.node.Two.{Two}
use Rattle.language.specs.declared.node.Two.TheVariants as two
use Rattle.language.specs.Syntax.{Expr, LoopEnd, list, integer, boolean, error, name, unary, binary, if, let_in, tagcase, for, forall, call, record_of, field, union, array, element, iter, done, if_end, let_end, tagcase_end, count, count_ends}
use Rattle.language.specs.Encoding.{encode_expr, encode_all, encode_end, encode_ends, encode_uses}
use Rattle.language.specs.Sorts.{present, same, takes, gives, operand, result_of, element_of, fields_of, tags_of, merged_type}
use Rattle.language.specs.Typing.{Context, Plain, Types, MembersTypes, ArmsTypes, EndTypes, EndsTypes, depth, depth_all, depth_end, depth_ends}
use Rattle.verdict.specs.declared.kinds.Sort.{Sort}
use Rattle.verdict.specs.declared.kinds.Sort.TheVariants as sort
use Rattle.verdict.specs.declared.kinds.Head.{Head}
use Rattle.verdict.specs.declared.kinds.Head.TheVariants as head
use Rattle.verdict.specs.Outcomes.{accepted, found, each}
use Rattle.verdict.specs.Bodies.{sorts, end_sorts, kind_at, head_at}
use Rattle.verdict.specs.Judging.{Typed, typed, single, of_one, matches, is_one, all_of, parameters_in, results_in, tag_in, judge_one, judge_two, bound, arms_of, singles, firsts, agree, first_types, trees, ends}
use Rattle.verdict.specs.Expressions.{leaf_tree, one_tree, two_tree, Reads, Ends, one_at, two_at, members_at, list_at, if_at, let_at, arms_at, tagcase_at, for_at, forall_at, parts_at, iter_at, if_end_at, let_end_at, ends_at, tagcase_end_at, end_parts_at, done_at, goes_on, record_at, end_record_at, expr, end}
use Rattle.verdict.proofs.Members.{members_few}
use Rattle.verdict.proofs.Spans.{not_accepted, after_inv, accepted_inv, judged_inv, found_inv, Span, span_nil, span_cons, span_join}
use Rattle.verdict.proofs.Heads.{sort_byte, head_sort, head_body, HeadFits, HeadIs, head_sound, kind_inv, end_kind_inv}
use Rattle.verdict.proofs.Sames.{same_true, single_inv, of_one_inv, matches_inv, is_one_inv, all_of_inv, parameters_inv, tag_inv}

-- What stands from p to q is the expression, it has these types, and it fits the room.
pub record Is (C : Context) (room : ℕ) (bs Γ : List ℕ) (p : ℕ) (e : Expr) (ts : List ℕ) (q : ℕ) : Type 0 where
  pub span : Span bs p (encode_expr e) q
  pub types : Types C e Γ ts
  pub within : depth e ≤ room

pub record EndsAs (C : Context) (room : ℕ) (bs ts again Γ : List ℕ) (p : ℕ) (l : LoopEnd) (q : ℕ) : Type 0 where
  pub span : Span bs p (encode_end l) q
  pub types : EndTypes C l again Γ ts
  pub within : depth_end l ≤ room

abbrev pub Sound : Context → ℕ → List ℕ → Reads → Type 0
Sound C room bs ex = (Γ : List ℕ) (p : ℕ) (a : Typed) (q : ℕ) → ex Γ p ≡ accepted a q → Is C room bs Γ p a.tree a.types q

abbrev pub SoundEnds : Context → ℕ → List ℕ → Ends → Type 0
SoundEnds C room bs en = (ts again Γ : List ℕ) (p : ℕ) (l : LoopEnd) (q : ℕ) → en ts again Γ p ≡ accepted l q → EndsAs C room bs ts again Γ p l q

moved : {C : Context} {room : ℕ} {bs Γ : List ℕ} {p : ℕ} (e : Expr) (ts : List ℕ) {s : ℕ} {a : Typed} {q : ℕ} → Is C room bs Γ p e ts s → typed e ts ≡ a → s ≡ q → Is C room bs Γ p a.tree a.types q
moved {C} {room} {bs} {Γ} {p} e ts {s} {a} {q} i x y = subst (λ v. Is C room bs Γ p v.tree v.types q) x (subst (λ v. Is C room bs Γ p e ts v) y i)

moved_end : {C : Context} {room : ℕ} {bs ts again Γ : List ℕ} {p : ℕ} (l : LoopEnd) {s : ℕ} {m : LoopEnd} {q : ℕ} → EndsAs C room bs ts again Γ p l s → l ≡ m → s ≡ q → EndsAs C room bs ts again Γ p m q
moved_end {C} {room} {bs} {ts} {again} {Γ} {p} l {s} {m} {q} i x y = subst (λ v. EndsAs C room bs ts again Γ p v q) x (subst (λ v. EndsAs C room bs ts again Γ p l v) y i)

bound_inv : (Γ us : List ℕ) (p next : ℕ) (Δ : List ℕ) (r : ℕ) → bound Γ us p next ≡ accepted Δ r → (length Γ + length us ≤ 96) × (Γ ++ us ≡ Δ) × (next ≡ r)
bound_inv Γ us p next Δ r h = let j = judged_inv (Deep p) (leb (length Γ + length us) 96) (Γ ++ us) next Δ r h in (leb-true _ 96 j.0, j.1, j.2)

retyped : (C : Context) (Γ : List ℕ) (e : Expr) (ts us : List ℕ) → us ≡ ts → Types C e Γ ts → Types C e Γ us
retyped C Γ e ts us x t = subst (Types C e Γ) (sym x) t

-- Trees by their heads.
pub leaf_bytes : (l : Leaf) (t : ℕ) → encode_expr (leaf_tree l) ≡ sort_byte (head_sort (head.Leaf l t)) ∷ head_body (head.Leaf l t)
unfolding encode_expr
leaf_bytes (leaf.Integer n) t = refl
leaf_bytes (leaf.Boolean b) t = refl
leaf_bytes (leaf.Error f u) t = refl
leaf_bytes (leaf.Name n) t = refl

leaf_types : (C : Context) (Γ : List ℕ) (l : Leaf) (t : ℕ) → HeadFits C Γ (head.Leaf l t) → Types C (leaf_tree l) Γ (t ∷ [])
unfolding Types
leaf_types C Γ (leaf.Integer n) t f = ap (λ z. z ∷ []) f
leaf_types C Γ (leaf.Boolean b) t f = ap (λ z. z ∷ []) f
leaf_types C Γ (leaf.Error g u) t f = (f.0, f.1, ap (λ z. z ∷ []) f.2)
leaf_types C Γ (leaf.Name n) t f = (t, f, refl)

leaf_depth : (l : Leaf) → depth (leaf_tree l) ≡ 1
unfolding depth
leaf_depth (leaf.Integer n) = refl
leaf_depth (leaf.Boolean b) = refl
leaf_depth (leaf.Error f u) = refl
leaf_depth (leaf.Name n) = refl

pub one_bytes : (o : One) (e : Expr) → encode_expr (one_tree o e) ≡ sort_byte (head_sort (head.One o)) ∷ (head_body (head.One o) ++ encode_expr e)
unfolding encode_expr
one_bytes (one.Unary op) e = refl
one_bytes (one.Call f) e = refl
one_bytes (one.Record t) e = refl
one_bytes (one.Field n) e = refl
one_bytes (one.Union t tag) e = refl

pub one_depth : (o : One) (e : Expr) → depth (one_tree o e) ≡ depth e + 1
unfolding depth
one_depth (one.Unary op) e = refl
one_depth (one.Call f) e = refl
one_depth (one.Record t) e = refl
one_depth (one.Field n) e = refl
one_depth (one.Union t tag) e = refl

one_types : (C : Context) (Γ : List ℕ) (o : One) (e : Expr) (us : List ℕ) (p q : ℕ) (ts : List ℕ) (r : ℕ) → Types C e Γ us → judge_one C o us p q ≡ accepted ts r → Types C (one_tree o e) Γ ts × (q ≡ r)
unfolding Types
one_types C Γ (one.Unary op) e us p q ts r t h =
    let x = after_inv (found (Clash p) (single us) q) _ ts r h in
    let g = found_inv (Clash p) (single us) q x.0 x.1 x.2 in
    let j = judged_inv (Clash p) (takes C.rows op x.0) (gives op ∷ []) x.1 ts r x.3 in
    ((x.0, subst (Types C e Γ) (single_inv us x.0 g.0) t, j.0, sym j.1), g.1 ∙ j.2)
one_types C Γ (one.Call f) e us p q ts r t h =
    let j = judged_inv (Clash p) (matches (parameters_in (slice_get C.callees f)) us) (results_in (slice_get C.callees f)) q ts r h in
    let s = parameters_inv (slice_get C.callees f) us (matches_inv _ us j.0) in
    ((s.0, s.1, retyped C Γ e us s.0.parameters s.2 t, sym j.1 ∙ ap results_in s.1), j.2)
one_types C Γ (one.Record n) e us p q ts r t h =
    let j = judged_inv (Clash p) (matches (fields_of C.rows n) us) (n ∷ []) q ts r h in
    ((us, matches_inv (fields_of C.rows n) us j.0, t, sym j.1), j.2)
one_types C Γ (one.Field n) e us p q ts r t h =
    let x = after_inv (found (Clash p) (of_one (fields_of C.rows) us) q) _ ts r h in
    let g = found_inv (Clash p) (of_one (fields_of C.rows) us) q x.0 x.1 x.2 in
    let o = of_one_inv (fields_of C.rows) us x.0 g.0 in
    let y = after_inv (found (Undeclared p) (slice_get x.0 n) x.1) _ ts r x.3 in
    let k = found_inv (Undeclared p) (slice_get x.0 n) x.1 y.0 y.1 y.2 in
    let j = accepted_inv (y.0 ∷ []) ts y.1 r y.3 in
    ((o.0, y.0, x.0, subst (Types C e Γ) o.1 t, o.2, k.0, sym j.0), g.1 ∙ (k.1 ∙ j.1))
one_types C Γ (one.Union n tag) e us p q ts r t h =
    let j = judged_inv (Clash p) (is_one (tag_in (tags_of C.rows n) tag) us) (n ∷ []) q ts r h in
    let i = is_one_inv (tag_in (tags_of C.rows n) tag) us j.0 in
    let g = tag_inv (tags_of C.rows n) tag i.0 i.1 in
    ((g.0, i.0, g.1, g.2, subst (Types C e Γ) i.2 t, sym j.1), j.2)

pub two_bytes_are : (o : Two) (a b : Expr) → encode_expr (two_tree o a b) ≡ sort_byte (head_sort (head.Two o)) ∷ (head_body (head.Two o) ++ (encode_expr a ++ encode_expr b))
unfolding encode_expr
two_bytes_are (two.Binary op) a b = refl
two_bytes_are (two.Array t) a b = refl
two_bytes_are two.Element a b = refl

pub two_depth : (o : Two) (a b : Expr) → depth (two_tree o a b) ≡ max (depth a) (depth b) + 1
unfolding depth
two_depth (two.Binary op) a b = refl
two_depth (two.Array t) a b = refl
two_depth two.Element a b = refl

two_types : (C : Context) (Γ : List ℕ) (o : Two) (a b : Expr) (us vs : List ℕ) (p q : ℕ) (ts : List ℕ) (r : ℕ) → Types C a Γ us → Types C b Γ vs → judge_two C o us vs p q ≡ accepted ts r → Types C (two_tree o a b) Γ ts × (q ≡ r)
unfolding Types
two_types C Γ (two.Binary op) a b us vs p q ts r s t h =
    let j = judged_inv (Clash p) (same (operand op ∷ []) us && same (operand op ∷ []) vs) (result_of op ∷ []) q ts r h in
    let k = and_parts (same (operand op ∷ []) us) (same (operand op ∷ []) vs) j.0 in
    ((retyped C Γ a us (operand op ∷ []) (same_true _ us k.0) s, retyped C Γ b vs (operand op ∷ []) (same_true _ vs k.1) t, sym j.1), j.2)
two_types C Γ (two.Array n) a b us vs p q ts r s t h =
    let j = judged_inv (Clash p) (same (1 ∷ []) us && all_of (element_of C.rows n) vs) (n ∷ []) q ts r h in
    let k = and_parts (same (1 ∷ []) us) (all_of (element_of C.rows n) vs) j.0 in
    let i = all_of_inv (element_of C.rows n) vs k.1 in
    ((i.0, vs, i.1, retyped C Γ a us (1 ∷ []) (same_true _ us k.0) s, t, i.2, sym j.1), j.2)
two_types C Γ two.Element a b us vs p q ts r s t h =
    let x = after_inv (found (Clash p) (of_one (element_of C.rows) us) q) _ ts r h in
    let g = found_inv (Clash p) (of_one (element_of C.rows) us) q x.0 x.1 x.2 in
    let o = of_one_inv (element_of C.rows) us x.0 g.0 in
    let j = judged_inv (Clash p) (same (1 ∷ []) vs) (x.0 ∷ []) x.1 ts r x.3 in
    ((o.0, x.0, subst (Types C a Γ) o.1 s, o.2, retyped C Γ b vs (1 ∷ []) (same_true _ vs j.0) t, sym j.1), g.1 ∙ j.2)

pub count_trees : (xs : List Typed) → count (trees xs) ≡ length xs
count_trees [] = refl
count_trees (x ∷ xs) = omega (arith, count_trees xs)

pub count_these : (ls : List LoopEnd) → count_ends (ends ls) ≡ length ls
count_these [] = refl
count_these (l ∷ ls) = omega (arith, count_these ls)

-- The first byte tells an if, a let and a tagcase from other expressions.
abbrev pub first_byte : Expr → ℕ
first_byte (list es) = 0x30
first_byte (integer n) = 0x31
first_byte (boolean b) = 0x32
first_byte (error f t) = 0x33
first_byte (name n) = 0x34
first_byte (unary op a) = 0x35
first_byte (binary op a b) = 0x35
first_byte (if c a b) = 0x36
first_byte (let_in d b) = 0x37
first_byte (tagcase c arms) = 0x38
first_byte (for ts i l) = 0x39
first_byte (forall m a b c) = 0x3B
first_byte (call f a) = 0x3C
first_byte (record_of t e) = 0x3D
first_byte (field n e) = 0x3E
first_byte (union t tag e) = 0x3F
first_byte (array t a b) = 0x40
first_byte (element a b) = 0x42

pub begins : (e : Expr) (bs : List ℕ) (p q : ℕ) → Span bs p (encode_expr e) q → (p < length bs) × (get_or bs p 0 ≡ first_byte e)
unfolding encode_expr
begins (list es) bs p q s = (s.stands.0, s.stands.1)
begins (integer n) bs p q s = (s.stands.0, s.stands.1)
begins (boolean b) bs p q s = (s.stands.0, s.stands.1)
begins (error f t) bs p q s = (s.stands.0, s.stands.1)
begins (name n) bs p q s = (s.stands.0, s.stands.1)
begins (unary op a) bs p q s = (s.stands.0, s.stands.1)
begins (binary op a b) bs p q s = (s.stands.0, s.stands.1)
begins (if c a b) bs p q s = (s.stands.0, s.stands.1)
begins (let_in d b) bs p q s = (s.stands.0, s.stands.1)
begins (tagcase c arms) bs p q s = (s.stands.0, s.stands.1)
begins (for ts i l) bs p q s = (s.stands.0, s.stands.1)
begins (forall m a b c) bs p q s = (s.stands.0, s.stands.1)
begins (call f a) bs p q s = (s.stands.0, s.stands.1)
begins (record_of t e) bs p q s = (s.stands.0, s.stands.1)
begins (field n e) bs p q s = (s.stands.0, s.stands.1)
begins (union t tag e) bs p q s = (s.stands.0, s.stands.1)
begins (array t a b) bs p q s = (s.stands.0, s.stands.1)
begins (element a b) bs p q s = (s.stands.0, s.stands.1)

-- A byte that no end of a loop begins with.
abbrev OtherByte : ℕ → Type 0
OtherByte b = (b ≡ 0x36 → ⊥) × (b ≡ 0x37 → ⊥) × (b ≡ 0x38 → ⊥)

plain_from : (e : Expr) → OtherByte (first_byte e) → Plain e
plain_from (list es) h = tt
plain_from (integer n) h = tt
plain_from (boolean b) h = tt
plain_from (error f t) h = tt
plain_from (name n) h = tt
plain_from (unary op a) h = tt
plain_from (binary op a b) h = tt
plain_from (if c a b) h = h.0 refl
plain_from (let_in d b) h = h.1 refl
plain_from (tagcase c arms) h = h.2 refl
plain_from (for ts i l) h = tt
plain_from (forall m a b c) h = tt
plain_from (call f a) h = tt
plain_from (record_of t e) h = tt
plain_from (field n e) h = tt
plain_from (union t tag e) h = tt
plain_from (array t a b) h = tt
plain_from (element a b) h = tt

other_byte : (k : Sort) → goes_on k ≡ false → OtherByte (sort_byte k)
other_byte sort.List g = (λ e. omega arith, λ e. omega arith, λ e. omega arith)
other_byte sort.Integer g = (λ e. omega arith, λ e. omega arith, λ e. omega arith)
other_byte sort.Boolean g = (λ e. omega arith, λ e. omega arith, λ e. omega arith)
other_byte sort.Error g = (λ e. omega arith, λ e. omega arith, λ e. omega arith)
other_byte sort.Name g = (λ e. omega arith, λ e. omega arith, λ e. omega arith)
other_byte sort.Operation g = (λ e. omega arith, λ e. omega arith, λ e. omega arith)
other_byte sort.If g = absurd (true≢false g)
other_byte sort.Let g = absurd (true≢false g)
other_byte sort.Tagcase g = absurd (true≢false g)
other_byte sort.For g = (λ e. omega arith, λ e. omega arith, λ e. omega arith)
other_byte sort.Iter g = absurd (true≢false g)
other_byte sort.Forall g = (λ e. omega arith, λ e. omega arith, λ e. omega arith)
other_byte sort.Call g = (λ e. omega arith, λ e. omega arith, λ e. omega arith)
other_byte sort.Record g = (λ e. omega arith, λ e. omega arith, λ e. omega arith)
other_byte sort.Field g = (λ e. omega arith, λ e. omega arith, λ e. omega arith)
other_byte sort.Union g = (λ e. omega arith, λ e. omega arith, λ e. omega arith)
other_byte sort.Array g = (λ e. omega arith, λ e. omega arith, λ e. omega arith)
other_byte sort.Element g = (λ e. omega arith, λ e. omega arith, λ e. omega arith)

pub arms_inv : (C : Context) (n : ℕ) (ts : List ℕ) (p q : ℕ) (us : List ℕ) (r : ℕ) → arms_of C n ts p q ≡ accepted us r → (t : ℕ) × (ts ≡ t ∷ []) × (tags_of C.rows t ≡ Some us) × (n ≡ length us) × (q ≡ r)
arms_inv C n ts p q us r h =
    let x = after_inv (found (Clash p) (of_one (tags_of C.rows) ts) q) _ us r h in
    let g = found_inv (Clash p) (of_one (tags_of C.rows) ts) q x.0 x.1 x.2 in
    let o = of_one_inv (tags_of C.rows) ts x.0 g.0 in
    let j = judged_inv (Clash p) (eqb n (length x.0)) x.0 x.1 us r x.3 in
    (o.0, o.1, o.2 ∙ ap Some j.1, eqb-true n _ j.0 ∙ ap length j.1, g.1 ∙ j.2)

module _ (C : Context) (room : ℕ) (bs : List ℕ) (ex : Reads) (en : Ends) (ih : Sound C room bs ex) (ih_end : SoundEnds C room bs en) where
  -- Members, arms and ends one after the other.
  pub record MembersAre (Γ : List ℕ) (n p : ℕ) (xs : List Typed) (q : ℕ) : Type 0 where
    pub long : length xs ≡ n
    pub span : Span bs p (encode_all (trees xs)) q
    pub types : singles xs ≡ true → MembersTypes C (trees xs) Γ (firsts xs)
    pub within : depth_all (trees xs) ≤ room

  single_first : (ts : List ℕ) → present (single ts) ≡ true → ts ≡ get_or ts 0 0 ∷ []
  single_first [] h = absurd (false≢true h)
  single_first (t ∷ []) h = refl
  single_first (t ∷ (u ∷ ts)) h = absurd (false≢true h)

  members_sound : (Γ : List ℕ) (n p : ℕ) (xs : List Typed) (q : ℕ) → members_at ex n Γ p ≡ accepted xs q → MembersAre Γ n p xs q
  unfolding each encode_all MembersTypes depth_all
  members_sound Γ zero p xs q h =
      let j = accepted_inv [] xs p q h in
      subst (λ ys. MembersAre Γ zero p ys q) j.0 (record { long = refl; span = subst (λ z. Span bs p [] z) j.1 (span_nil bs p); types = λ _. refl; within = omega arith })
  members_sound Γ (suc n) p xs q h =
      let x = after_inv (ex Γ p) _ xs q h in
      let y = after_inv (members_at ex n Γ x.1) _ xs q x.3 in
      let j = accepted_inv (x.0 ∷ y.0) xs y.1 q y.3 in
      let i = ih Γ p x.0 x.1 x.2 in
      let k = members_sound Γ n x.1 y.0 y.1 y.2 in
      subst (λ ys. MembersAre Γ (suc n) p ys q) j.0 (record {
        long = omega (arith, k.long);
        span = subst (λ z. Span bs p (encode_expr x.0.tree ++ encode_all (trees y.0)) z) j.1 (span_join bs p _ _ x.1 y.1 i.span k.span);
        types = λ s. (let b = and_parts (present (single x.0.types)) (singles y.0) s in
            (get_or x.0.types 0 0, firsts y.0, subst (Types C x.0.tree Γ) (single_first x.0.types b.0) i.types, k.types b.1, refl));
        within = omega (arith, i.within, k.within);
      })

  pub record ArmsAre (Γ us : List ℕ) (p : ℕ) (xs : List Typed) (q : ℕ) : Type 0 where
    pub long : length xs ≡ length us
    pub span : Span bs p (encode_all (trees xs)) q
    pub types : (ts : List ℕ) → agree ts xs ≡ true → ArmsTypes C (trees xs) us Γ ts
    pub within : depth_all (trees xs) ≤ room

  arms_sound : (Γ us : List ℕ) (p : ℕ) (xs : List Typed) (q : ℕ) → arms_at ex us Γ p ≡ accepted xs q → ArmsAre Γ us p xs q
  unfolding each encode_all ArmsTypes depth_all
  arms_sound Γ [] p xs q h =
      let j = accepted_inv [] xs p q h in
      subst (λ ys. ArmsAre Γ [] p ys q) j.0 (record { long = refl; span = subst (λ z. Span bs p [] z) j.1 (span_nil bs p); types = λ _ _. refl; within = omega arith })
  arms_sound Γ (u ∷ us) p xs q h =
      let x = after_inv (ex (Γ ++ u ∷ []) p) _ xs q h in
      let y = after_inv (arms_at ex us Γ x.1) _ xs q x.3 in
      let j = accepted_inv (x.0 ∷ y.0) xs y.1 q y.3 in
      let i = ih (Γ ++ u ∷ []) p x.0 x.1 x.2 in
      let k = arms_sound Γ us x.1 y.0 y.1 y.2 in
      subst (λ ys. ArmsAre Γ (u ∷ us) p ys q) j.0 (record {
        long = omega (arith, k.long);
        span = subst (λ z. Span bs p (encode_expr x.0.tree ++ encode_all (trees y.0)) z) j.1 (span_join bs p _ _ x.1 y.1 i.span k.span);
        types = λ ts s. (let b = and_parts (same ts x.0.types) (agree ts y.0) s in
            (u, us, refl, retyped C (Γ ++ u ∷ []) x.0.tree x.0.types ts (same_true ts x.0.types b.0) i.types, k.types ts b.1));
        within = omega (arith, i.within, k.within);
      })

  pub record EndsAre (ts again Γ us : List ℕ) (p : ℕ) (ls : List LoopEnd) (q : ℕ) : Type 0 where
    pub long : length ls ≡ length us
    pub span : Span bs p (encode_ends (ends ls)) q
    pub types : EndsTypes C (ends ls) us again Γ ts
    pub within : depth_ends (ends ls) ≤ room

  ends_sound : (ts again Γ us : List ℕ) (p : ℕ) (ls : List LoopEnd) (q : ℕ) → ends_at en ts again us Γ p ≡ accepted ls q → EndsAre ts again Γ us p ls q
  unfolding each encode_ends EndsTypes depth_ends
  ends_sound ts again Γ [] p ls q h =
      let j = accepted_inv [] ls p q h in
      subst (λ ys. EndsAre ts again Γ [] p ys q) j.0 (record { long = refl; span = subst (λ z. Span bs p [] z) j.1 (span_nil bs p); types = refl; within = omega arith })
  ends_sound ts again Γ (u ∷ us) p ls q h =
      let x = after_inv (en ts again (Γ ++ u ∷ []) p) _ ls q h in
      let y = after_inv (ends_at en ts again us Γ x.1) _ ls q x.3 in
      let j = accepted_inv (x.0 ∷ y.0) ls y.1 q y.3 in
      let i = ih_end ts again (Γ ++ u ∷ []) p x.0 x.1 x.2 in
      let k = ends_sound ts again Γ us x.1 y.0 y.1 y.2 in
      subst (λ ys. EndsAre ts again Γ (u ∷ us) p ys q) j.0 (record {
        long = omega (arith, k.long);
        span = subst (λ z. Span bs p (encode_end x.0 ++ encode_ends (ends y.0)) z) j.1 (span_join bs p _ _ x.1 y.1 i.span k.span);
        types = (u, us, refl, i.types, k.types);
        within = omega (arith, i.within, k.within);
      })

  -- By the head: `s` is where the kind byte and the body stand.
  abbrev Headed : Head → ℕ → ℕ → Type 0
  Headed h p q = Span bs p (sort_byte (head_sort h) ∷ head_body h) q

  leaf_sound : (l : Leaf) (t : ℕ) (Γ : List ℕ) (p q : ℕ) (a : Typed) (r : ℕ) → Headed (head.Leaf l t) p q → HeadFits C Γ (head.Leaf l t) → accepted (typed (leaf_tree l) (t ∷ [])) q ≡ accepted a r → Is C (suc room) bs Γ p a.tree a.types r
  leaf_sound l t Γ p q a r s f h =
      let j = accepted_inv (typed (leaf_tree l) (t ∷ [])) a q r h in
      moved (leaf_tree l) (t ∷ []) (record { span = subst (λ z. Span bs p z q) (sym (leaf_bytes l t)) s; types = leaf_types C Γ l t f; within = omega (arith, leaf_depth l) }) j.0 j.1

  one_sound : (o : One) (Γ : List ℕ) (p q : ℕ) (a : Typed) (r : ℕ) → Headed (head.One o) p q → one_at C ex o Γ p q ≡ accepted a r → Is C (suc room) bs Γ p a.tree a.types r
  one_sound o Γ p q a r s h =
      let x = after_inv (ex Γ q) _ a r h in
      let y = after_inv (judge_one C o x.0.types p x.1) _ a r x.3 in
      let j = accepted_inv (typed (one_tree o x.0.tree) y.0) a y.1 r y.3 in
      let i = ih Γ q x.0 x.1 x.2 in
      let t = one_types C Γ o x.0.tree x.0.types p x.1 y.0 y.1 i.types y.2 in
      moved (one_tree o x.0.tree) y.0 (record {
        span = subst (λ z. Span bs p z y.1) (sym (one_bytes o x.0.tree)) (subst (λ z. Span bs p (sort_byte (head_sort (head.One o)) ∷ (head_body (head.One o) ++ encode_expr x.0.tree)) z) t.1 (span_join bs p _ _ q x.1 s i.span));
        types = t.0;
        within = omega (arith, one_depth o x.0.tree, i.within);
      }) j.0 j.1

  two_sound : (o : Two) (Γ : List ℕ) (p q : ℕ) (a : Typed) (r : ℕ) → Headed (head.Two o) p q → two_at C ex o Γ p q ≡ accepted a r → Is C (suc room) bs Γ p a.tree a.types r
  two_sound o Γ p q a r s h =
      let x = after_inv (ex Γ q) _ a r h in
      let y = after_inv (ex Γ x.1) _ a r x.3 in
      let z = after_inv (judge_two C o x.0.types y.0.types p y.1) _ a r y.3 in
      let j = accepted_inv (typed (two_tree o x.0.tree y.0.tree) z.0) a z.1 r z.3 in
      let i = ih Γ q x.0 x.1 x.2 in
      let k = ih Γ x.1 y.0 y.1 y.2 in
      let t = two_types C Γ o x.0.tree y.0.tree x.0.types y.0.types p y.1 z.0 z.1 i.types k.types z.2 in
      moved (two_tree o x.0.tree y.0.tree) z.0 (record {
        span = subst (λ v. Span bs p v z.1) (sym (two_bytes_are o x.0.tree y.0.tree)) (subst (λ v. Span bs p (sort_byte (head_sort (head.Two o)) ∷ (head_body (head.Two o) ++ (encode_expr x.0.tree ++ encode_expr y.0.tree))) v) t.1 (span_join bs p _ _ q y.1 s (span_join bs q _ _ x.1 y.1 i.span k.span)));
        types = t.0;
        within = omega (arith, two_depth o x.0.tree y.0.tree, i.within, k.within);
      }) j.0 j.1

  list_sound : (n : ℕ) (Γ : List ℕ) (p q : ℕ) (a : Typed) (r : ℕ) → Headed (head.List n) p q → HeadFits C Γ (head.List n) → list_at ex n Γ p q ≡ accepted a r → Is C (suc room) bs Γ p a.tree a.types r
  unfolding encode_expr Types depth
  list_sound n Γ p q a r s f h =
      let x = after_inv (members_at ex n Γ q) _ a r h in
      let j = judged_inv (Clash p) (singles x.0) (typed (list (trees x.0)) (firsts x.0)) x.1 a r x.3 in
      let m = members_sound Γ n q x.0 x.1 x.2 in
      let c : count (trees x.0) ≡ n = count_trees x.0 ∙ m.long in
      moved (list (trees x.0)) (firsts x.0) (record {
        span = subst (λ z. Span bs p (0x30 ∷ z ∷ encode_all (trees x.0)) x.1) (sym c) (span_join bs p (0x30 ∷ n ∷ []) _ q x.1 s m.span);
        types = (omega (arith, f.0), omega (arith, f.1), m.types j.0);
        within = omega (arith, m.within);
      }) j.1 j.2

  if_sound : (Γ : List ℕ) (p q : ℕ) (a : Typed) (r : ℕ) → Headed head.If p q → if_at ex Γ p q ≡ accepted a r → Is C (suc room) bs Γ p a.tree a.types r
  unfolding encode_expr Types depth
  if_sound Γ p q a r s h =
      let x = after_inv (ex Γ q) _ a r h in
      let y = after_inv (ex Γ x.1) _ a r x.3 in
      let z = after_inv (ex Γ y.1) _ a r y.3 in
      let j = judged_inv (Clash p) (same (0 ∷ []) x.0.types && same y.0.types z.0.types) (typed (if x.0.tree y.0.tree z.0.tree) y.0.types) z.1 a r z.3 in
      let ok = and_parts (same (0 ∷ []) x.0.types) (same y.0.types z.0.types) j.0 in
      let i = ih Γ q x.0 x.1 x.2 in
      let k = ih Γ x.1 y.0 y.1 y.2 in
      let l = ih Γ y.1 z.0 z.1 z.2 in
      moved (if x.0.tree y.0.tree z.0.tree) y.0.types (record {
        span = span_join bs p (0x36 ∷ []) _ q z.1 s (span_join bs q _ _ x.1 z.1 i.span (span_join bs x.1 _ _ y.1 z.1 k.span l.span));
        types = (retyped C Γ x.0.tree x.0.types (0 ∷ []) (same_true _ x.0.types ok.0) i.types, k.types, retyped C Γ z.0.tree z.0.types y.0.types (same_true y.0.types z.0.types ok.1) l.types);
        within = omega (arith, i.within, k.within, l.within);
      }) j.1 j.2

  let_sound : (Γ : List ℕ) (p q : ℕ) (a : Typed) (r : ℕ) → Headed head.Let p q → let_at ex Γ p q ≡ accepted a r → Is C (suc room) bs Γ p a.tree a.types r
  unfolding encode_expr Types depth
  let_sound Γ p q a r s h =
      let x = after_inv (ex Γ q) _ a r h in
      let v = after_inv (bound Γ x.0.types p x.1) _ a r x.3 in
      let b = bound_inv Γ x.0.types p x.1 v.0 v.1 v.2 in
      let y = after_inv (ex v.0 v.1) _ a r v.3 in
      let j = accepted_inv (typed (let_in x.0.tree y.0.tree) y.0.types) a y.1 r y.3 in
      let i = ih Γ q x.0 x.1 x.2 in
      let k = ih v.0 v.1 y.0 y.1 y.2 in
      let m : Span bs x.1 (encode_expr y.0.tree) y.1 = subst (λ n. Span bs n (encode_expr y.0.tree) y.1) (sym b.2) k.span in
      moved (let_in x.0.tree y.0.tree) y.0.types (record {
        span = span_join bs p (0x37 ∷ []) _ q y.1 s (span_join bs q _ _ x.1 y.1 i.span m);
        types = (x.0.types, i.types, b.0, subst (λ n. Types C y.0.tree n y.0.types) (sym b.1) k.types);
        within = omega (arith, i.within, k.within);
      }) j.0 j.1

  tagcase_sound : (n : ℕ) (Γ : List ℕ) (p q : ℕ) (a : Typed) (r : ℕ) → Headed (head.Tagcase n) p q → tagcase_at C ex n Γ p q ≡ accepted a r → Is C (suc room) bs Γ p a.tree a.types r
  unfolding encode_expr Types depth
  tagcase_sound n Γ p q a r s h =
      let x = after_inv (ex Γ q) _ a r h in
      let y = after_inv (arms_of C n x.0.types p x.1) _ a r x.3 in
      let u = arms_inv C n x.0.types p x.1 y.0 y.1 y.2 in
      let v = after_inv (bound Γ (0 ∷ []) p y.1) _ a r y.3 in
      let b = bound_inv Γ (0 ∷ []) p y.1 v.0 v.1 v.2 in
      let z = after_inv (arms_at ex y.0 Γ v.1) _ a r v.3 in
      let j = judged_inv (Clash p) (agree (first_types z.0) z.0) (typed (tagcase x.0.tree (trees z.0)) (first_types z.0)) z.1 a r z.3 in
      let i = ih Γ q x.0 x.1 x.2 in
      let m = arms_sound Γ y.0 v.1 z.0 z.1 z.2 in
      let c : count (trees z.0) ≡ n = count_trees z.0 ∙ (m.long ∙ sym u.3) in
      let w : Span bs x.1 (encode_all (trees z.0)) z.1 = subst (λ k. Span bs k (encode_all (trees z.0)) z.1) (sym (u.4 ∙ b.2)) m.span in
      moved (tagcase x.0.tree (trees z.0)) (first_types z.0) (record {
        span = subst (λ k. Span bs p (0x38 ∷ k ∷ (encode_expr x.0.tree ++ encode_all (trees z.0))) z.1) (sym c) (span_join bs p (0x38 ∷ n ∷ []) _ q z.1 s (span_join bs q _ _ x.1 z.1 i.span w));
        types = (u.0, y.0, subst (Types C x.0.tree Γ) u.1 i.types, u.2, omega (arith, b.0), m.types (first_types z.0) j.0);
        within = omega (arith, i.within, m.within);
      }) j.1 j.2

  for_sound : (m : Members) (Γ : List ℕ) (p q : ℕ) (a : Typed) (r : ℕ) → Headed (head.For m) p q → HeadFits C Γ (head.For m) → for_at ex en (used m) Γ p q ≡ accepted a r → Is C (suc room) bs Γ p a.tree a.types r
  unfolding encode_expr Types depth
  for_sound m Γ p q a r s f h =
      let x = after_inv (ex Γ q) _ a r h in
      let v = after_inv (bound Γ x.0.types p x.1) _ a r x.3 in
      let b = bound_inv Γ x.0.types p x.1 v.0 v.1 v.2 in
      let y = after_inv (en (used m) x.0.types v.0 v.1) _ a r v.3 in
      let j = accepted_inv (typed (for (used m) x.0.tree y.0) (used m)) a y.1 r y.3 in
      let i = ih Γ q x.0 x.1 x.2 in
      let k = ih_end (used m) x.0.types v.0 v.1 y.0 y.1 y.2 in
      let w : Span bs x.1 (encode_end y.0) y.1 = subst (λ n. Span bs n (encode_end y.0) y.1) (sym b.2) k.span in
      moved (for (used m) x.0.tree y.0) (used m) (record {
        span = span_join bs p (0x39 ∷ length (used m) ∷ encode_uses (used m)) _ q y.1 s (span_join bs q _ _ x.1 y.1 i.span w);
        types = (members_few m, f.0, (x.0.types, i.types, b.0, subst (λ n. EndTypes C y.0 x.0.types n (used m)) (sym b.1) k.types), refl);
        within = omega (arith, i.within, k.within);
      }) j.0 j.1

  forall_sound : (m : Merge) (t : ℕ) (Γ : List ℕ) (p q : ℕ) (a : Typed) (r : ℕ) → Headed (head.Forall m t) p q → HeadFits C Γ (head.Forall m t) → forall_at ex m t Γ p q ≡ accepted a r → Is C (suc room) bs Γ p a.tree a.types r
  unfolding encode_expr Types depth
  forall_sound m t Γ p q a r s f h =
      let x = after_inv (ex Γ q) _ a r h in
      let y = after_inv (ex Γ x.1) _ a r x.3 in
      let v = after_inv (bound Γ (1 ∷ []) p y.1) _ a r y.3 in
      let b = bound_inv Γ (1 ∷ []) p y.1 v.0 v.1 v.2 in
      let z = after_inv (ex v.0 v.1) _ a r v.3 in
      let j = judged_inv (Clash p) (same (1 ∷ []) x.0.types && (same (1 ∷ []) y.0.types && same (t ∷ []) z.0.types)) (typed (forall m x.0.tree y.0.tree z.0.tree) (merged_type m ∷ [])) z.1 a r z.3 in
      let o1 = and_parts (same (1 ∷ []) x.0.types) (same (1 ∷ []) y.0.types && same (t ∷ []) z.0.types) j.0 in
      let o2 = and_parts (same (1 ∷ []) y.0.types) (same (t ∷ []) z.0.types) o1.1 in
      let i = ih Γ q x.0 x.1 x.2 in
      let k = ih Γ x.1 y.0 y.1 y.2 in
      let l = ih v.0 v.1 z.0 z.1 z.2 in
      let w : Span bs y.1 (encode_expr z.0.tree) z.1 = subst (λ n. Span bs n (encode_expr z.0.tree) z.1) (sym b.2) l.span in
      let pt : Types C z.0.tree (Γ ++ 1 ∷ []) (t ∷ []) = retyped C (Γ ++ 1 ∷ []) z.0.tree z.0.types (t ∷ []) (same_true (t ∷ []) z.0.types o2.1) (subst (λ n. Types C z.0.tree n z.0.types) (sym b.1) l.types) in
      moved (forall m x.0.tree y.0.tree z.0.tree) (merged_type m ∷ []) (record {
        span = span_join bs p (sort_byte (head_sort (head.Forall m t)) ∷ head_body (head.Forall m t)) _ q z.1 s (span_join bs q _ _ x.1 z.1 i.span (span_join bs x.1 _ _ y.1 z.1 k.span w));
        types = (retyped C Γ x.0.tree x.0.types (1 ∷ []) (same_true _ x.0.types o1.0) i.types, retyped C Γ y.0.tree y.0.types (1 ∷ []) (same_true _ y.0.types o2.0) k.types, omega (arith, b.0), (t, pt, f), refl);
        within = omega (arith, i.within, k.within, l.within);
      }) j.1 j.2

  parts_sound : (h : Head) (Γ : List ℕ) (p q : ℕ) (a : Typed) (r : ℕ) → Headed h p q → HeadFits C Γ h → parts_at C ex en h Γ p q ≡ accepted a r → Is C (suc room) bs Γ p a.tree a.types r
  parts_sound (head.Leaf l t) Γ p q a r s f e = leaf_sound l t Γ p q a r s f e
  parts_sound (head.One o) Γ p q a r s f e = one_sound o Γ p q a r s e
  parts_sound (head.Two o) Γ p q a r s f e = two_sound o Γ p q a r s e
  parts_sound (head.List n) Γ p q a r s f e = list_sound n Γ p q a r s f e
  parts_sound head.If Γ p q a r s f e = if_sound Γ p q a r s e
  parts_sound head.Let Γ p q a r s f e = let_sound Γ p q a r s e
  parts_sound (head.Tagcase n) Γ p q a r s f e = tagcase_sound n Γ p q a r s e
  parts_sound (head.For m) Γ p q a r s f e = for_sound m Γ p q a r s f e
  parts_sound (head.Forall m t) Γ p q a r s f e = forall_sound m t Γ p q a r s f e
  parts_sound head.Iter Γ p q a r s f e = absurd (not_accepted (Strange p) a r e)

  headed : (k : Sort) (h : Head) (Γ : List ℕ) (p q : ℕ) → p < length bs → get_or bs p 0 ≡ sort_byte k → HeadIs C bs Γ k p h q → Headed h p q
  headed k h Γ p q lt b i = span_cons lt (b ∙ ap sort_byte (sym i.sort_is)) i.span

  pub record_sound : ((i : ℕ) → get_or bs i 0 < 256) → (k : Sort) (Γ : List ℕ) (p : ℕ) (a : Typed) (r : ℕ) → p < length bs → get_or bs p 0 ≡ sort_byte k → record_at C bs ex en k Γ p ≡ accepted a r → Is C (suc room) bs Γ p a.tree a.types r
  record_sound bytes k Γ p a r lt b e =
      let x = after_inv (head_at C bs Γ k p) _ a r e in
      let i = head_sound C bs Γ p bytes k x.0 x.1 x.2 in
      parts_sound x.0 Γ p x.1 a r (headed k x.0 Γ p x.1 lt b i) i.fits x.3

  -- Ends of loops.
  iter_sound : (ts again Γ : List ℕ) (p q : ℕ) (l : LoopEnd) (r : ℕ) → Headed head.Iter p q → iter_at ex again Γ p q ≡ accepted l r → EndsAs C (suc room) bs ts again Γ p l r
  unfolding encode_end EndTypes depth_end
  iter_sound ts again Γ p q l r s h =
      let x = after_inv (ex Γ q) _ l r h in
      let j = judged_inv (Clash p) (same again x.0.types) (iter x.0.tree) x.1 l r x.3 in
      let i = ih Γ q x.0 x.1 x.2 in
      moved_end (iter x.0.tree) (record {
        span = span_join bs p (0x3A ∷ []) _ q x.1 s i.span;
        types = retyped C Γ x.0.tree x.0.types again (same_true again x.0.types j.0) i.types;
        within = omega (arith, i.within);
      }) j.1 j.2

  if_end_sound : (ts again Γ : List ℕ) (p q : ℕ) (l : LoopEnd) (r : ℕ) → Headed head.If p q → if_end_at ex en ts again Γ p q ≡ accepted l r → EndsAs C (suc room) bs ts again Γ p l r
  unfolding encode_end EndTypes depth_end
  if_end_sound ts again Γ p q l r s h =
      let x = after_inv (ex Γ q) _ l r h in
      let y = after_inv (en ts again Γ x.1) _ l r x.3 in
      let z = after_inv (en ts again Γ y.1) _ l r y.3 in
      let j = judged_inv (Clash p) (same (0 ∷ []) x.0.types) (if_end x.0.tree y.0 z.0) z.1 l r z.3 in
      let i = ih Γ q x.0 x.1 x.2 in
      let k = ih_end ts again Γ x.1 y.0 y.1 y.2 in
      let m = ih_end ts again Γ y.1 z.0 z.1 z.2 in
      moved_end (if_end x.0.tree y.0 z.0) (record {
        span = span_join bs p (0x36 ∷ []) _ q z.1 s (span_join bs q _ _ x.1 z.1 i.span (span_join bs x.1 _ _ y.1 z.1 k.span m.span));
        types = (retyped C Γ x.0.tree x.0.types (0 ∷ []) (same_true _ x.0.types j.0) i.types, k.types, m.types);
        within = omega (arith, i.within, k.within, m.within);
      }) j.1 j.2

  let_end_sound : (ts again Γ : List ℕ) (p q : ℕ) (l : LoopEnd) (r : ℕ) → Headed head.Let p q → let_end_at ex en ts again Γ p q ≡ accepted l r → EndsAs C (suc room) bs ts again Γ p l r
  unfolding encode_end EndTypes depth_end
  let_end_sound ts again Γ p q l r s h =
      let x = after_inv (ex Γ q) _ l r h in
      let v = after_inv (bound Γ x.0.types p x.1) _ l r x.3 in
      let b = bound_inv Γ x.0.types p x.1 v.0 v.1 v.2 in
      let y = after_inv (en ts again v.0 v.1) _ l r v.3 in
      let j = accepted_inv (let_end x.0.tree y.0) l y.1 r y.3 in
      let i = ih Γ q x.0 x.1 x.2 in
      let k = ih_end ts again v.0 v.1 y.0 y.1 y.2 in
      let w : Span bs x.1 (encode_end y.0) y.1 = subst (λ n. Span bs n (encode_end y.0) y.1) (sym b.2) k.span in
      moved_end (let_end x.0.tree y.0) (record {
        span = span_join bs p (0x37 ∷ []) _ q y.1 s (span_join bs q _ _ x.1 y.1 i.span w);
        types = (x.0.types, i.types, b.0, subst (λ n. EndTypes C y.0 again n ts) (sym b.1) k.types);
        within = omega (arith, i.within, k.within);
      }) j.0 j.1

  tagcase_end_sound : (n : ℕ) (ts again Γ : List ℕ) (p q : ℕ) (l : LoopEnd) (r : ℕ) → Headed (head.Tagcase n) p q → tagcase_end_at C ex en n ts again Γ p q ≡ accepted l r → EndsAs C (suc room) bs ts again Γ p l r
  unfolding encode_end EndTypes depth_end
  tagcase_end_sound n ts again Γ p q l r s h =
      let x = after_inv (ex Γ q) _ l r h in
      let y = after_inv (arms_of C n x.0.types p x.1) _ l r x.3 in
      let u = arms_inv C n x.0.types p x.1 y.0 y.1 y.2 in
      let v = after_inv (bound Γ (0 ∷ []) p y.1) _ l r y.3 in
      let b = bound_inv Γ (0 ∷ []) p y.1 v.0 v.1 v.2 in
      let z = after_inv (ends_at en ts again y.0 Γ v.1) _ l r v.3 in
      let j = accepted_inv (tagcase_end x.0.tree (ends z.0)) l z.1 r z.3 in
      let i = ih Γ q x.0 x.1 x.2 in
      let m = ends_sound ts again Γ y.0 v.1 z.0 z.1 z.2 in
      let c : count_ends (ends z.0) ≡ n = count_these z.0 ∙ (m.long ∙ sym u.3) in
      let w : Span bs x.1 (encode_ends (ends z.0)) z.1 = subst (λ k. Span bs k (encode_ends (ends z.0)) z.1) (sym (u.4 ∙ b.2)) m.span in
      moved_end (tagcase_end x.0.tree (ends z.0)) (record {
        span = subst (λ k. Span bs p (0x38 ∷ k ∷ (encode_expr x.0.tree ++ encode_ends (ends z.0))) z.1) (sym c) (span_join bs p (0x38 ∷ n ∷ []) _ q z.1 s (span_join bs q _ _ x.1 z.1 i.span w));
        types = (u.0, y.0, subst (Types C x.0.tree Γ) u.1 i.types, u.2, omega (arith, b.0), m.types);
        within = omega (arith, i.within, m.within);
      }) j.0 j.1

  end_parts_sound : (h : Head) (ts again Γ : List ℕ) (p q : ℕ) (l : LoopEnd) (r : ℕ) → Headed h p q → end_parts_at C ex en h ts again Γ p q ≡ accepted l r → EndsAs C (suc room) bs ts again Γ p l r
  end_parts_sound (head.Leaf m t) ts again Γ p q l r s e = absurd (not_accepted (Strange p) l r e)
  end_parts_sound (head.One o) ts again Γ p q l r s e = absurd (not_accepted (Strange p) l r e)
  end_parts_sound (head.Two o) ts again Γ p q l r s e = absurd (not_accepted (Strange p) l r e)
  end_parts_sound (head.List n) ts again Γ p q l r s e = absurd (not_accepted (Strange p) l r e)
  end_parts_sound head.If ts again Γ p q l r s e = if_end_sound ts again Γ p q l r s e
  end_parts_sound head.Let ts again Γ p q l r s e = let_end_sound ts again Γ p q l r s e
  end_parts_sound (head.Tagcase n) ts again Γ p q l r s e = tagcase_end_sound n ts again Γ p q l r s e
  end_parts_sound (head.For m) ts again Γ p q l r s e = absurd (not_accepted (Strange p) l r e)
  end_parts_sound (head.Forall m t) ts again Γ p q l r s e = absurd (not_accepted (Strange p) l r e)
  end_parts_sound head.Iter ts again Γ p q l r s e = iter_sound ts again Γ p q l r s e

  done_sound : ((i : ℕ) → get_or bs i 0 < 256) → (k : Sort) (ts again Γ : List ℕ) (p : ℕ) (l : LoopEnd) (r : ℕ) → goes_on k ≡ false → p < length bs → get_or bs p 0 ≡ sort_byte k → done_at ts p (record_at C bs ex en k Γ p) ≡ accepted l r → EndsAs C (suc room) bs ts again Γ p l r
  unfolding encode_end EndTypes depth_end
  done_sound bytes k ts again Γ p l r g lt b e =
      let x = after_inv (record_at C bs ex en k Γ p) _ l r e in
      let j = judged_inv (Clash p) (same ts x.0.types) (done x.0.tree) x.1 l r x.3 in
      let i = record_sound bytes k Γ p x.0 x.1 lt b x.2 in
      let first : first_byte x.0.tree ≡ sort_byte k = sym (begins x.0.tree bs p x.1 i.span).1 ∙ b in
      moved_end (done x.0.tree) (record {
        span = i.span;
        types = (plain_from x.0.tree (subst OtherByte (sym first) (other_byte k g)), retyped C Γ x.0.tree x.0.types ts (same_true ts x.0.types j.0) i.types);
        within = i.within;
      }) j.1 j.2

  pub end_record_sound : ((i : ℕ) → get_or bs i 0 < 256) → (g : Bool) (k : Sort) (ts again Γ : List ℕ) (p : ℕ) (l : LoopEnd) (r : ℕ) → goes_on k ≡ g → p < length bs → get_or bs p 0 ≡ sort_byte k → end_record_at g C bs ex en k ts again Γ p ≡ accepted l r → EndsAs C (suc room) bs ts again Γ p l r
  end_record_sound bytes true k ts again Γ p l r g lt b e =
      let x = after_inv (head_at C bs Γ k p) _ l r e in
      let i = head_sound C bs Γ p bytes k x.0 x.1 x.2 in
      end_parts_sound x.0 ts again Γ p x.1 l r (headed k x.0 Γ p x.1 lt b i) x.3
  end_record_sound bytes false k ts again Γ p l r g lt b e = done_sound bytes k ts again Γ p l r g lt b e

mutual
  unfolding expr end

  pub sound : (C : Context) (room : ℕ) (bs : List ℕ) → ((i : ℕ) → get_or bs i 0 < 256) → Sound C room bs (expr C room bs)
  sound C zero bs bytes Γ p a q h = let x = after_inv (kind_at sorts bs p) _ a q h in absurd (not_accepted (Deep p) a q x.3)
  sound C (suc room) bs bytes Γ p a q h =
      let x = after_inv (kind_at sorts bs p) _ a q h in
      let k = kind_inv bs p x.0 x.1 x.2 in
      record_sound C room bs (expr C room bs) (end C room bs) (sound C room bs bytes) (sound_end C room bs bytes) bytes x.0 Γ p a q k.0 k.1 x.3

  pub sound_end : (C : Context) (room : ℕ) (bs : List ℕ) → ((i : ℕ) → get_or bs i 0 < 256) → SoundEnds C room bs (end C room bs)
  sound_end C zero bs bytes ts again Γ p l q h = let x = after_inv (kind_at end_sorts bs p) _ l q h in absurd (not_accepted (Deep p) l q x.3)
  sound_end C (suc room) bs bytes ts again Γ p l q h =
      let x = after_inv (kind_at end_sorts bs p) _ l q h in
      let k = end_kind_inv bs p x.0 x.1 x.2 in
      end_record_sound C room bs (expr C room bs) (end C room bs) (sound C room bs bytes) (sound_end C room bs bytes) bytes (goes_on x.0) x.0 ts again Γ p l q refl k.0 k.1 x.3
