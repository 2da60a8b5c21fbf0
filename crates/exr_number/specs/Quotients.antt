-- Quotients rounded toward zero, by multiplication alone.
use Rattle.std.specs.Prelude.{◌+◌, ◌*◌, ◌<◌, ◌≤◌, ℤ, pos, ◌*ℤ◌, ◌≤ℤ◌, unsigned_abs}

-- q is a / b rounded toward zero: without the signs, b goes q times into a and not once more, and
-- q is negative or positive only where a times b is
pub record Truncated (a b q : ℤ) : Type 0 where
  pub whole : unsigned_abs q * unsigned_abs b ≤ unsigned_abs a
  pub next : unsigned_abs a < (unsigned_abs q + 1) * unsigned_abs b
  pub above : pos 0 ≤ℤ (a *ℤ b) → pos 0 ≤ℤ q
  pub below : (a *ℤ b) ≤ℤ pos 0 → q ≤ℤ pos 0

-- what divides by any number but 0, and rounds toward zero
abbrev pub TowardZero : (ℤ → ℤ → ℤ) → Type 0
TowardZero quotient = (a b : ℤ) → 0 < unsigned_abs b → Truncated a b (quotient a b)
