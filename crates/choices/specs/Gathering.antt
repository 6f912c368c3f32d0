-- And and or: an operation on truth values that errors make undef, its laws, and what it means for a list.
use Rattle.std.specs.Prelude.{◌≡◌, Bool, true, false, ◌&&◌, ◌||◌, cond, List, [], ◌∷◌, refl}
use Rattle.std.specs.List.{list_any, list_all}
use Rattle.std.proofs.Common.{sym, ap, ap₂, subst, ◌∙◌}
use Rattle.std.proofs.Math.Path.{fun_ext}
use Rattle.std.proofs.Math.Bool.{and_assoc, and_comm, or_assoc, or_comm}
use Rattle.numbers.specs.declared.fault.BasicFault.TheVariants.{Undef}
use Rattle.numbers.specs.declared.boolean.Boolean.{Boolean}
use Rattle.numbers.specs.declared.boolean.Boolean.TheVariants.{Proper, Error}
use Rattle.numbers.specs.Booleans.{both, either, is_error}
use Rattle.merging.specs.Operators.{Laws, meaning}
use Rattle.merging.specs.Operations.{OperationLaws, combining}
use Rattle.merging.specs.Free.{from_last, tallied-from_last}
use Rattle.merging.specs.Combining.{combining_free, combining_laws, neutral_kept_by}
use Rattle.choices.specs.Truths.{all_of, some_of, is_true, unless_error, AndAll, OrSome, Tally, NoMissedTally}

-- An operation on truth values, undef where either is an error.
abbrev lifted : (Bool → Bool → Bool) → Boolean → Boolean → Boolean
lifted op (Proper a) (Proper b) = Proper (op a b)
lifted op (Proper a) (Error f) = Error Undef
lifted op (Error f) b = Error Undef

-- The operation on every part of a list.
abbrev gathered : (Bool → Bool → Bool) → Bool → List Boolean → Bool
gathered op start [] = start
gathered op start (p ∷ ps) = op (is_true p) (gathered op start ps)

record Gathers (op : Bool → Bool → Bool) (start : Bool) : Type 0 where
  assoc : (a b c : Bool) → op (op a b) c ≡ op a (op b c)
  comm : (a b : Bool) → op a b ≡ op b a
  neutral : (a : Bool) → op start a ≡ a

module _ {op : Bool → Bool → Bool} {start : Bool} (g : Gathers op start) where
  lifted_assoc : (a b c : Boolean) → lifted op (lifted op a b) c ≡ lifted op a (lifted op b c)
  lifted_assoc (Proper a) (Proper b) (Proper c) = ap Proper (g.assoc a b c)
  lifted_assoc (Proper a) (Proper b) (Error f) = refl
  lifted_assoc (Proper a) (Error f) c = refl
  lifted_assoc (Error f) b c = refl

  lifted_comm : (a b : Boolean) → lifted op a b ≡ lifted op b a
  lifted_comm (Proper a) (Proper b) = ap Proper (g.comm a b)
  lifted_comm (Proper a) (Error f) = refl
  lifted_comm (Error f) (Proper b) = refl
  lifted_comm (Error f) (Error h) = refl

  gathering_laws : OperationLaws (Proper start) (lifted op)
  gathering_laws = record { assoc = lifted_assoc; comm = lifted_comm; neutral_kept = ap Proper (g.neutral start) }

  -- The operation never gives miss_elt.
  lifted_tally : (a b : Boolean) → Tally (lifted op a b)
  lifted_tally (Proper a) (Proper b) = tt
  lifted_tally (Proper a) (Error f) = refl
  lifted_tally (Error f) b = refl

  -- So no tally of parts is miss_elt: it is what the operation gives for the start and itself.
  gathering_tallies : NoMissedTally (combining (Proper start) (lifted op))
  gathering_tallies n t s = subst Tally (neutral_kept_by gathering_laws s) (lifted_tally (Proper start) t)

  -- One truth value more, before a list's or the error of the list.
  lifted_first : (p t error : Bool) → lifted op (Proper p) (cond error (Error Undef) (Proper t)) ≡ cond error (Error Undef) (Proper (op p t))
  lifted_first p t true = refl
  lifted_first p t false = refl

  gathering_means : (ps : List Boolean) → from_last (combining (Proper start) (lifted op)) ps ≡ unless_error ps (gathered op start ps)
  gathering_means [] = refl
  gathering_means (Proper p ∷ ps) =
      ap₂ (λ q t. lifted op (Proper q) t) (g.neutral p) (gathering_means ps)
      ∙ lifted_first p (gathered op start ps) (list_any is_error ps)
  gathering_means (Error f ∷ ps) = refl

  gathering_stands : (ps : List Boolean) → meaning (combining (Proper start) (lifted op)) ps ≡ unless_error ps (gathered op start ps)
  gathering_stands ps = tallied-from_last (combining_free gathering_laws) ps ∙ gathering_means ps

and_gathers : Gathers ◌&&◌ true
and_gathers = record { assoc = and_assoc; comm = and_comm; neutral = λ a. refl }

or_gathers : Gathers ◌||◌ false
or_gathers = record { assoc = or_assoc; comm = or_comm; neutral = λ a. refl }

is_both : (a b : Boolean) → lifted ◌&&◌ a b ≡ both a b
is_both (Proper a) (Proper b) = refl
is_both (Proper a) (Error f) = refl
is_both (Error f) b = refl

is_either : (a b : Boolean) → lifted ◌||◌ a b ≡ either a b
is_either (Proper a) (Proper b) = refl
is_either (Proper a) (Error f) = refl
is_either (Error f) b = refl

lifted_both : lifted ◌&&◌ ≡ both
lifted_both = fun_ext (λ a. fun_ext (is_both a))

lifted_either : lifted ◌||◌ ≡ either
lifted_either = fun_ext (λ a. fun_ext (is_either a))

every_gathered : (ps : List Boolean) → gathered ◌&&◌ true ps ≡ list_all is_true ps
every_gathered [] = refl
every_gathered (p ∷ ps) = ap (λ b. is_true p && b) (every_gathered ps)

any_gathered : (ps : List Boolean) → gathered ◌||◌ false ps ≡ list_any is_true ps
any_gathered [] = refl
any_gathered (p ∷ ps) = ap (λ b. is_true p || b) (any_gathered ps)

pub and_laws : OperationLaws (Proper true) both
and_laws = subst (OperationLaws (Proper true)) lifted_both (gathering_laws and_gathers)

pub or_laws : OperationLaws (Proper false) either
or_laws = subst (OperationLaws (Proper false)) lifted_either (gathering_laws or_gathers)

pub and_all : AndAll
and_all ps =
    ap (λ op. meaning (combining (Proper true) op) ps) (sym lifted_both)
    ∙ gathering_stands and_gathers ps
    ∙ ap (unless_error ps) (every_gathered ps)

pub or_some : OrSome
or_some ps =
    ap (λ op. meaning (combining (Proper false) op) ps) (sym lifted_either)
    ∙ gathering_stands or_gathers ps
    ∙ ap (unless_error ps) (any_gathered ps)

-- So and and or are lawful operators.
pub and_lawful : Laws all_of
and_lawful = combining_laws and_laws

pub or_lawful : Laws some_of
or_lawful = combining_laws or_laws

-- No tally of and, nor of or, is miss_elt.
pub tallies_of_and : NoMissedTally all_of
tallies_of_and = subst (λ op. NoMissedTally (combining (Proper true) op)) lifted_both (gathering_tallies and_gathers)

pub tallies_of_or : NoMissedTally some_of
tallies_of_or = subst (λ op. NoMissedTally (combining (Proper false) op)) lifted_either (gathering_tallies or_gathers)
