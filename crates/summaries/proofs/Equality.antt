-- == holds of two integers exactly where they are the same.
use Rattle.std.proofs.Common.{◌≡◌, true, ap, subst, arith, rules}
use borrow.Author.Differences.{ints}
use Rattle.std.proofs.lemmas.Bool.{false≢true}
use Rattle.numbers.specs.declared.integer.Integer.{Integer}
use Rattle.numbers.specs.declared.integer.Integer.TheVariants.{Proper, Error}
use Rattle.numbers.specs.contracts.integer.IntegerPartialEq.TheImpl as integer_eq
use Rattle.numbers.specs.contracts.integer.IntegerEq.TheImpl.Laws.{laws-law}
use Rattle.numbers.specs.contracts.fault.Fault.{the_type}
use denote.Enum.Bare.{same_true}
use Rattle.numbers.proofs.Same.{same_number}

pub same_if : (j k : Integer) → (integer_eq.ghosts).eq j k ≡ true → j ≡ k
same_if (Proper m) (Proper n) e = ap Proper (same_number m n (grind (arith, ints)))
same_if (Proper m) (Error g) e = absurd (false≢true e)
same_if (Error f) (Proper n) e = absurd (false≢true e)
same_if (Error f) (Error g) e = ap Error (same_true the_type (search rules) f g e)

pub same_only : (j k : Integer) → j ≡ k → (integer_eq.ghosts).eq j k ≡ true
same_only j k e = subst (λ i. (integer_eq.ghosts).eq j i ≡ true) e (laws-law.refl j)
