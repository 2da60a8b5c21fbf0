-- Floats that are written and read again.
use Rattle.std.specs.Prelude.{◌≡◌, ℕ, ◌^◌, ◌<◌, List, ◌++◌, map, Ok, Float}
use Rattle.std.specs.List.{All}
use Rattle.layout.specs.Numbers.{Bytes}
use Rattle.layout.specs.Floats.{single as keeps_single, double as keeps_double}
use Rattle.layout.specs.Fields.{Field, fields, field_bytes}
use Rattle.layout.specs.Kinds.{fields_of, float, v2f, v3f}
use Rattle.layout.specs.Kinds.{double as double_kind}
use Rattle.exr_vec2.specs.declared.Vec2.{Vec2}
use Rattle.exr_float.specs.declared.bits.FloatBits.{FloatBits}
use Rattle.exr_float.specs.Elements.{alone, both, three}
use Rattle.exr_float.specs.Floats.{float_of, double_of, held}

-- bits of so many
abbrev pub Wide : ℕ → FloatBits ℕ → Type 0
Wide n b = b.bits < 2 ^ n

-- what is written into fields for some floats, where so much is kept of bits
pub record ReadBack (keeps : ℕ → ℕ) (float : FloatBits ℕ → Float) (fs : List Field) (bs : List (FloatBits ℕ)) : Type 0 where
  -- reads as the numbers written, whatever stands behind them
  pub back : (rest : Bytes) → fields fs (field_bytes fs (map keeps (held bs)) ++ rest) ≡ Ok (map keeps (held bs), rest)
  -- and these are the same floats
  pub same : map (λ b. float (record { bits = keeps b.bits })) bs ≡ map float bs

pub record FloatsReadBack : Type 0 where
  pub single : (b : FloatBits ℕ) → All (Wide 32) (alone b) → ReadBack keeps_single float_of (fields_of float) (alone b)
  pub pair : (p : Vec2 (FloatBits ℕ)) → All (Wide 32) (both p) → ReadBack keeps_single float_of (fields_of v2f) (both p)
  pub triple : (t : FloatBits ℕ × FloatBits ℕ × FloatBits ℕ) → All (Wide 32) (three t) → ReadBack keeps_single float_of (fields_of v3f) (three t)
  pub wide : (b : FloatBits ℕ) → All (Wide 64) (alone b) → ReadBack keeps_double double_of (fields_of double_kind) (alone b)
