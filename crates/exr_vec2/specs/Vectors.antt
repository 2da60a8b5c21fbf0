-- What the operations on vectors answer, by the values of the coordinates in ℤ.
use Rattle.std.specs.Prelude.{◌≡◌, ◌⊎◌, ℤ, pos, ◌≤ℤ◌, ◌<ℤ◌, Some, None, Option}
use Rattle.exr_number.specs.Numbers.{Range, Within}
use Rattle.exr_vec2.specs.declared.Vec2.{Vec2}

-- the vector with the coordinates x and y where P holds of x and Q of y, and none exactly where not
abbrev pub Coordinates : {X : Type 0} → (X → ℤ) → (ℤ → Type 0) → ℤ → (ℤ → Type 0) → ℤ → Option (Vec2 X) → Type 0
Coordinates value P x Q y None = P x → Q y → ⊥
Coordinates value P x Q y (Some v) = P x × Q y × (value v.0 ≡ x) × (value v.1 ≡ y)

-- the vector of f at the first coordinates of v and w and of f at their second ones, where P holds of
-- the second number and the result at both, and none exactly where not
abbrev pub Combined : {X : Type 0} → (X → ℤ) → (ℤ → ℤ → Type 0) → (ℤ → ℤ → ℤ) → Vec2 X → Vec2 X → Option (Vec2 X) → Type 0
Combined value P f v w r =
    Coordinates value (P (value w.0)) (f (value v.0) (value w.0)) (P (value w.1)) (f (value v.1) (value w.1)) r

-- m is the larger of a and b: below neither, and one of the two
abbrev pub Larger : ℤ → ℤ → ℤ → Type 0
Larger a b m = (a ≤ℤ m) × (b ≤ℤ m) × ((m ≡ a) ⊎ (m ≡ b))

-- m is the smaller of a and b: above neither, and one of the two
abbrev pub Smaller : ℤ → ℤ → ℤ → Type 0
Smaller a b m = (m ≤ℤ a) × (m ≤ℤ b) × ((m ≡ a) ⊎ (m ≡ b))

-- the place (x, y) lies in an image of that width and height
abbrev pub Inside : ℤ → ℤ → ℤ → ℤ → Type 0
Inside x y width height = (pos 0 ≤ℤ x) × (x <ℤ width) × (pos 0 ≤ℤ y) × (y <ℤ height)

-- an index can be answered: its place lies in the image, and it lies in the range
abbrev pub IndexFits : Range → ℤ → ℤ → ℤ → ℤ → ℤ → Type 0
IndexFits s x y width height index = Inside x y width height × Within s index
