-- Floats and their bits.
use Rattle.std.specs.Prelude.{◌≡◌, ℕ, ◌^◌, ◌<◌, List, map, from_bits, to_bits, Float}
use Rattle.std.specs.Float.{binary32, binary64}
use Rattle.layout.specs.Floats.{single, double}
use Rattle.exr_float.specs.declared.bits.FloatBits.{FloatBits}

-- the float that bits are: all that is not a number is one
abbrev pub float_of : FloatBits ℕ → Float
float_of b = from_bits binary32 b.bits

abbrev pub double_of : FloatBits ℕ → Float
double_of b = from_bits binary64 b.bits

-- the bits of a float
abbrev pub single_of : Float → FloatBits ℕ
single_of x = record { bits = to_bits binary32 x }

abbrev pub wide_of : Float → FloatBits ℕ
wide_of x = record { bits = to_bits binary64 x }

-- bits as they are held, and as they are written
abbrev pub held : List (FloatBits ℕ) → List ℕ
held bs = map (λ b. b.bits) bs

abbrev pub written : List (FloatBits ℕ) → List ℕ
written bs = map (λ b. single b.bits) bs

-- what makes bits of floats, and floats of bits, is the two functions named first
pub record OneByTheOther {F B : Type 0} (bits : F → B) (floats : B → F) (bits_of : F → B) (floats_of : B → F) : Type 0 where
  pub to : (x : F) → bits_of x ≡ bits x
  pub from : (b : B) → floats_of b ≡ floats b

-- ---- the layout's floats are the floats of the standard

pub record FloatsAreTheirBits : Type 0 where
  -- read as a float and written again, a pattern is as the layout keeps it
  pub single_kept : (n : ℕ) → n < 2 ^ 32 → to_bits binary32 (from_bits binary32 n) ≡ single n
  pub double_kept : (n : ℕ) → n < 2 ^ 64 → to_bits binary64 (from_bits binary64 n) ≡ double n
  -- what the layout keeps is the same float
  pub single_same : (n : ℕ) → n < 2 ^ 32 → from_bits binary32 (single n) ≡ from_bits binary32 n
  pub double_same : (n : ℕ) → n < 2 ^ 64 → from_bits binary64 (double n) ≡ from_bits binary64 n
