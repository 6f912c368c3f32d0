-- Adding from the last reading on is adding the readings in the other order.
use Rattle.std.proofs.Common.{◌≡◌, List, [], ◌∷◌, fold, reverse, refl, ap, ◌∙◌}
use Rattle.std.proofs.lemmas.List.{reverse-append}
use Rattle.std.proofs.lemmas.List.Sums.{fold-append}
use Rattle.numbers.specs.declared.integer.Integer.{Integer}
use Rattle.arithmetic.specs.Arithmetic.{sum}
use Rattle.summaries.specs.Orders.{from_last, zero}

pub fold-reverse : (ps : List Integer) → fold sum zero (reverse ps) ≡ from_last ps
unfolding from_last
fold-reverse [] = refl
fold-reverse (p ∷ ps) =
    ap (fold sum zero) (reverse-append (p ∷ []) ps)
    ∙ fold-append sum zero (reverse ps) (p ∷ [])
    ∙ ap (λ t. sum t p) (fold-reverse ps)
