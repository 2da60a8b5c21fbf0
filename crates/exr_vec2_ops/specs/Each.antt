-- An operation on two vectors, coordinate by coordinate.
use Rattle.std.specs.Prelude.{◌⊎◌, Some, None, Option}
use Rattle.exr_vec2.specs.declared.Vec2.{Vec2}

-- what the operation answers at both coordinates, or none where it answers none at the first that
-- has no answer
abbrev pub Each : {X : Type 0} → (X → X → Option X → Type 0) → Vec2 X → Vec2 X → Option (Vec2 X) → Type 0
Each answers v w (Some u) = answers v.0 w.0 (Some u.0) × answers v.1 w.1 (Some u.1)
Each {X} answers v w None = answers v.0 w.0 None ⊎ ((x : X) × answers v.0 w.0 (Some x) × answers v.1 w.1 None)
