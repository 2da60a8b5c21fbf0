-- Values made of floats, as the layout has them.
use Rattle.std.specs.Prelude.{◌≡◌, ℕ, List, map}
use Rattle.layout.specs.Fields.{Field}
use Rattle.layout.specs.Floats.{double}
use Rattle.exr_float.specs.declared.bits.FloatBits.{FloatBits}
use Rattle.exr_float.specs.Floats.{held}

-- bits of 64 as they are written
abbrev pub doubles_written : List (FloatBits ℕ) → List ℕ
doubles_written bs = map double (held bs)

-- the fields of a value made of these floats, and its numbers as they are held and as they are written
pub record LaidOut {X : Type 0} (fs : List Field) (floats : X → List (FloatBits ℕ)) (kept : List (FloatBits ℕ) → List ℕ) (parts : List Field) (numbers written : X → List ℕ) : Type 0 where
  pub fields : parts ≡ fs
  pub as_held : (x : X) → numbers x ≡ held (floats x)
  pub as_written : (x : X) → written x ≡ kept (floats x)
