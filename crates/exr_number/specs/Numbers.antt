-- Whole numbers of a type that holds only some of them, by their value in ℤ.
use Rattle.std.specs.Prelude.{◌≡◌, ◌<◌, ℤ, ◌≤ℤ◌, Some, None, Option, unsigned_abs}

-- the least and the greatest number of a type
pub record Range : Type 0 where
  pub least : ℤ
  pub greatest : ℤ

-- the numbers from a to b, both included
abbrev pub from_to : ℤ → ℤ → Range
from_to a b = record { least = a; greatest = b }

-- z is one of the numbers of a range
abbrev pub Within : Range → ℤ → Type 0
Within s z = (s.least ≤ℤ z) × (z ≤ℤ s.greatest)

-- the number whose value is z where P holds of z, and none exactly where P does not
abbrev pub Answers : {X : Type 0} → (X → ℤ) → (ℤ → Type 0) → ℤ → Option X → Type 0
Answers value P z None = P z → ⊥
Answers value P z (Some x) = P z × (value x ≡ z)

-- a quotient can be answered: what it was divided by is not 0, and it lies in the range
abbrev pub QuotientFits : Range → ℤ → ℤ → Type 0
QuotientFits s divisor quotient = (0 < unsigned_abs divisor) × Within s quotient
