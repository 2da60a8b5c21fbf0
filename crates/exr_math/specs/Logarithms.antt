-- Logarithms to the base 2, as whole numbers.
use Rattle.std.specs.Prelude.{◌≡◌, ℕ, ◌*◌, ◌^◌, ◌<◌, ◌≤◌}
use Rattle.exr_math.specs.declared.rounding.RoundingMode.{RoundingMode}
use Rattle.exr_math.specs.declared.rounding.RoundingMode.TheVariants.{Down, Up}

-- r is the logarithm of n rounded down: n lies between its power of two and twice that; of 0 it is 0
abbrev pub FloorLog : ℕ → ℕ → Type 0
FloorLog n r = (n ≡ 0 → r ≡ 0) × (0 < n → (2 ^ r ≤ n) × (n < 2 * 2 ^ r))

-- r is how many bits n has: the least exponent whose power of two is above n
abbrev pub Bits : ℕ → ℕ → Type 0
Bits n r = (n < 2 ^ r) × ((k : ℕ) → n < 2 ^ k → r ≤ k)

-- r is the logarithm of n rounded up: the least exponent whose power of two is at least n
abbrev pub CeilLog : ℕ → ℕ → Type 0
CeilLog n r = (n ≤ 2 ^ r) × ((k : ℕ) → n ≤ 2 ^ k → r ≤ k)

-- the logarithm rounded as a mode says
abbrev pub RoundedLog : RoundingMode → ℕ → ℕ → Type 0
RoundedLog Down n r = FloorLog n r
RoundedLog Up n r = CeilLog n r
