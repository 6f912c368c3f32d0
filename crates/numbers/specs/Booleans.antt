-- Booleans with their two error values. An operation on an error gives undef; the tests always answer.
use Rattle.std.specs.Prelude.{Bool, true, false, not, ◌&&◌, ◌||◌}
use Rattle.numbers.specs.declared.fault.Fault.{Fault}
use Rattle.numbers.specs.declared.fault.BasicFault.TheVariants.{Undef}
use Rattle.numbers.specs.declared.boolean.Boolean.{Boolean}
use Rattle.numbers.specs.declared.boolean.Boolean.TheVariants.{Proper, Error}
use Rattle.numbers.specs.Faults.{basic_of, same_fault}

abbrev pub both : Boolean → Boolean → Boolean
both (Proper p) (Proper q) = Proper (p && q)
both (Proper p) (Error f) = Error Undef
both (Error f) k = Error Undef

abbrev pub either : Boolean → Boolean → Boolean
either (Proper p) (Proper q) = Proper (p || q)
either (Proper p) (Error f) = Error Undef
either (Error f) k = Error Undef

abbrev pub inverse : Boolean → Boolean
inverse (Proper p) = Proper (not p)
inverse (Error f) = Error Undef

abbrev pub is_error : Boolean → Bool
is_error (Proper p) = false
is_error (Error f) = true

-- Whether a boolean is this error value.
abbrev pub is_fault : Fault → Boolean → Bool
is_fault g (Proper p) = false
is_fault g (Error f) = same_fault (basic_of f) g
