-- What becomes of a vector whose coordinates are converted.
use Rattle.std.specs.Prelude.{◌⊎◌, ℤ, pos, ◌≤ℤ◌, Ok, Err, Result}
use Rattle.exr_vec2.specs.declared.Vec2.{Vec2}

-- both coordinates as converted, or the error of the first that cannot be converted
abbrev pub Converts : {S X E : Type 0} → (S → Result X E → Type 0) → Vec2 S → Result (Vec2 X) E → Type 0
Converts converts v (Ok w) = converts v.0 (Ok w.0) × converts v.1 (Ok w.1)
Converts {X = X} converts v (Err e) = converts v.0 (Err e) ⊎ ((x : X) × converts v.0 (Ok x) × converts v.1 (Err e))

-- z is not negative
abbrev pub NotNegative : ℤ → Type 0
NotNegative z = pos 0 ≤ℤ z

-- z is at most the greatest i32
abbrev pub AtMostI32 : ℤ → Type 0
AtMostI32 z = z ≤ℤ pos 2147483647
