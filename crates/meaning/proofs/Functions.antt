-- What holds of the meanings of a module's functions, by what holds of those before each. Two runs are compared function
-- by function; a fact of one run alone compares the run with itself.
use Rattle.std.proofs.Common.{ℕ, zero, suc, List, [], ◌∷◌, ◌++◌, length, get_or}
use Rattle.language.specs.Syntax.{Function}
use Rattle.meaning.specs.Evaluation.{Merging, Meaning, no_function, eval, meanings_from, meanings}

module _ (Q : Meaning → Meaning → Type 0) where
  -- Q holds of each function and its fellow.
  abbrev pub Pairs : List Meaning → List Meaning → Type 0
  Pairs [] [] = Unit {0}
  Pairs [] (m ∷ ms) = ⊥
  Pairs (m ∷ ms) [] = ⊥
  Pairs (m ∷ ms) (n ∷ ns) = Q m n × Pairs ms ns

  pub pair_at : Q no_function no_function → (ms ns : List Meaning) → Pairs ms ns → (f : ℕ) → Q (get_or ms f no_function) (get_or ns f no_function)
  pair_at q [] [] h f = q
  pair_at q [] (n ∷ ns) h f = absurd h
  pair_at q (m ∷ ms) [] h f = absurd h
  pair_at q (m ∷ ms) (n ∷ ns) h zero = h.0
  pair_at q (m ∷ ms) (n ∷ ns) h (suc f) = pair_at q ms ns h.1 f

  pair_more : (ms ns : List Meaning) (m n : Meaning) → Pairs ms ns → Q m n → Pairs (ms ++ m ∷ []) (ns ++ n ∷ [])
  pair_more [] [] m n h q = (q, tt)
  pair_more [] (n₁ ∷ ns) m n h q = absurd h
  pair_more (m₁ ∷ ms) [] m n h q = absurd h
  pair_more (m₁ ∷ ms) (n₁ ∷ ns) m n h q = (h.0, pair_more ms ns m n h.1 q)

  module _ (merge merge' : Merging)
      (BodyHas : (counts : List ℕ) (ms ns : List Meaning) → Pairs ms ns → (f : Function)
      → Q (λ us free budget. eval merge counts ms f.body us free budget) (λ us free budget. eval merge' counts ns f.body us free budget)) where
    pairs_from : (fs : List Function) (counts : List ℕ) (ms ns : List Meaning) → Pairs ms ns
        → Pairs (meanings_from merge counts ms fs) (meanings_from merge' counts ns fs)
    unfolding meanings_from
    pairs_from [] counts ms ns h = h
    pairs_from (f ∷ fs) counts ms ns h =
        pairs_from fs (counts ++ length f.results ∷ [])
        (ms ++ (λ us free budget. eval merge counts ms f.body us free budget) ∷ [])
        (ns ++ (λ us free budget. eval merge' counts ns f.body us free budget) ∷ [])
        (pair_more ms ns _ _ h (BodyHas counts ms ns h f))

    pub every_meaning : (fs : List Function) → Pairs (meanings merge fs) (meanings merge' fs)
    every_meaning fs = pairs_from fs [] [] [] tt
