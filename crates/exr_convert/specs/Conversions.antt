-- Conversions between integer types: the same number, or none where the other type does not have it.
use Rattle.std.specs.Prelude.{◌≡◌, ℕ, ◌^◌, ◌<◌, ℤ, pos, negsuc, Some, None, Option}

-- a signed number as an unsigned one: itself if it is not negative
abbrev pub Nonnegative : ℤ → Option ℕ → Type 0
Nonnegative (pos n) r = r ≡ Some n
Nonnegative (negsuc n) r = r ≡ None

-- an unsigned number at an unsigned type of so many bits
abbrev pub Fitting : ℕ → ℕ → Option ℕ → Type 0
Fitting bits n None = n < 2 ^ bits → ⊥
Fitting bits n (Some m) = (m ≡ n) × (n < 2 ^ bits)

-- an unsigned number at i32
abbrev pub FittingI32 : ℕ → Option ℤ → Type 0
FittingI32 n None = n < 2 ^ 31 → ⊥
FittingI32 n (Some z) = (z ≡ pos n) × (n < 2 ^ 31)
