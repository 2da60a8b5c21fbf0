-- Quotients as whole numbers, by multiplication alone.
use Rattle.std.specs.Prelude.{◌⊎◌, ℤ, pos, ◌+ℤ◌, ◌-ℤ◌, ◌*ℤ◌, ◌≤ℤ◌, ◌<ℤ◌, Some, None, Option}
use Rattle.exr_math.specs.declared.rounding.RoundingMode.{RoundingMode}
use Rattle.exr_math.specs.declared.rounding.RoundingMode.TheVariants.{Down, Up}

-- q is n / d rounded down: d goes q times into n, and not once more
abbrev pub RoundedDown : ℤ → ℤ → ℤ → Type 0
RoundedDown n d q = ((q *ℤ d) ≤ℤ n) × (n <ℤ ((q +ℤ pos 1) *ℤ d))

-- q is n / d rounded up: q times d reaches n, and once less does not
abbrev pub RoundedUp : ℤ → ℤ → ℤ → Type 0
RoundedUp n d q = (((q -ℤ pos 1) *ℤ d) <ℤ n) × (n ≤ℤ (q *ℤ d))

-- q is n / d rounded as a mode says
abbrev pub Rounded : RoundingMode → ℤ → ℤ → ℤ → Type 0
Rounded Down n d q = RoundedDown n d q
Rounded Up n d q = RoundedUp n d q

-- the rounded quotient, and none exactly where n is below 0 or d below 1
abbrev pub Divided : {X : Type 0} → (X → ℤ) → RoundingMode → ℤ → ℤ → Option X → Type 0
Divided value mode n d None = (n <ℤ pos 0) ⊎ (d <ℤ pos 1)
Divided value mode n d (Some q) = (pos 0 ≤ℤ n) × (pos 1 ≤ℤ d) × Rounded mode n d (value q)

-- n can be divided by d: n is not below 0, and d is not below 1
abbrev pub CanDivide : ℤ → ℤ → Type 0
CanDivide n d = (pos 0 ≤ℤ n) × (pos 1 ≤ℤ d)

-- there is a quotient, rounded down, from 0 to n
abbrev pub Floor : {X : Type 0} → (X → ℤ) → ℤ → ℤ → Option X → Type 0
Floor value n d None = ⊥
Floor value n d (Some q) = RoundedDown n d (value q) × (pos 0 ≤ℤ value q) × (value q ≤ℤ n)

-- there is a quotient, rounded up
abbrev pub Ceiling : {X : Type 0} → (X → ℤ) → ℤ → ℤ → Option X → Type 0
Ceiling value n d None = ⊥
Ceiling value n d (Some q) = RoundedUp n d (value q)
