-- Whether all of some bytes came or went.
use Rattle.std.specs.Prelude.{Bool, true, false, Ok, Err, Result}

-- all, or why not all
abbrev pub all_or : {E : Type 0} → Bool → E → Result (Unit {0}) E
all_or true e = Ok tt
all_or false e = Err e
