-- Boxes of integers: a position, the least corner, and two sides.
use Rattle.std.specs.Prelude.{ℕ, ◌-◌, Bool, ◌&&◌, List, [], ◌∷◌, replicate, ℤ, pos, negsuc, ◌+ℤ◌, ◌-ℤ◌, Result, int_le, nat_lt, slice_index, unsigned_abs}
use Rattle.std.proofs.Common.{to_z, of_z}
use Rattle.std.specs.Int.{int_min, int_max, w32}
use Rattle.layout.specs.Numbers.{Bytes}
use Rattle.layout.specs.Questions.{asked}
use Rattle.layout.specs.Fields.{Field, i32, field_bytes}

pub record Box : Type 0 where
  pub position : ℤ × ℤ
  pub size : ℕ × ℕ

abbrev pub in_range : ℤ → ℤ → Bool
in_range least greatest = int_le (negsuc 1073741821) least && int_le greatest (pos 1073741822)

-- the last place of an axis that begins at a place and has a side
abbrev pub last_of : ℤ → ℕ → ℤ
last_of least side = least +ℤ pos (side - 1)

abbrev pub axis_good : ℤ → ℕ → Bool
axis_good least side = nat_lt 0 side && in_range least (last_of least side)

abbrev pub box_good : Box → Bool
box_good b = axis_good b.position.0 b.size.0 && axis_good b.position.1 b.size.1

-- two places in either order: the least, and how many places there are
abbrev pub axis : ℤ → ℤ → ℤ × ℕ
axis a b = (int_min a b, unsigned_abs (int_max a b -ℤ int_min a b +ℤ pos 1))

-- the box of two corners
abbrev pub box_of : ℤ → ℤ → ℤ → ℤ → Box
box_of x y x' y' = record { position = ((axis x x').0, (axis y y').0); size = ((axis x x').1, (axis y y').1) }

abbrev pub corners : List Field
corners = replicate 4 i32

abbrev pub place : List ℕ → ℕ → ℤ
place ns i = to_z w32 (slice_index ns i)

abbrev pub box_from : List ℕ → Box
box_from ns = box_of (place ns 0) (place ns 1) (place ns 2) (place ns 3)

abbrev pub corner_numbers : Box → List ℕ
corner_numbers b =
    of_z w32 b.position.0 ∷ of_z w32 b.position.1 ∷ of_z w32 (last_of b.position.0 b.size.0) ∷ of_z w32 (last_of b.position.1 b.size.1) ∷ []

-- making a box
abbrev pub make_box : Box → Result Box ℕ
make_box b = asked (box_good b) 11 b

abbrev pub box_bytes : Box → Bytes
box_bytes b = field_bytes corners (corner_numbers b)
