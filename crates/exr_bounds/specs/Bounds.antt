-- Boxes of the code, as the layout has them.
use Rattle.std.specs.Prelude.{◌≡◌, ℕ, Bool, true, cond, ◌&&◌, List, [], ◌∷◌, ℤ, pos, ◌+ℤ◌, Some, None, Ok, Err, Option, Result, int_le, nat_le}
use Rattle.exr_error.specs.declared.refusal.Refusal.{Refusal}
use Rattle.exr_error.specs.Refusals.{number_of}
use Rattle.exr_vec2.specs.declared.Vec2.{Vec2}
use Rattle.layout.specs.Numbers.{Bytes}
use Rattle.layout.specs.Questions.{Answer, next, when_ok}
use Rattle.layout.specs.Fields.{integers}
use Rattle.layout.specs.Boxes.{Box, last_of, box_good, make_box, box_from}
use Rattle.exr_bounds.specs.declared.bounds.IntegerBounds.{IntegerBounds}

-- a position and two sides
abbrev pub box_at : Vec2 ℤ → Vec2 ℕ → Box
box_at p s = record { position = (p.0, p.1); size = (s.0, s.1) }

-- the box that a value of the type is
abbrev pub box_of : IntegerBounds → Box
box_of b = record { position = (b.x.least, b.y.least); size = (b.x.side, b.y.side) }

-- a made box by its meaning, or the number of the refusal
abbrev pub box_seen : Result IntegerBounds Refusal → Result Box ℕ
box_seen (Ok b) = Ok (box_of b)
box_seen (Err e) = Err (number_of e)

-- the box at the front of some bytes: four numbers, then 11
abbrev pub bounds_at : Bytes → Answer Box
bounds_at xs = next (integers 4 xs) (λ ns r. when_ok (make_box (box_from ns)) (λ b. Ok (b, r)))

-- its corners and sides as vectors: the least corner, the sides, the greatest corner, and the one behind it
abbrev pub position_of : Box → Vec2 ℤ
position_of b = (b.position.0, b.position.1)

abbrev pub sides_of : Box → Vec2 ℕ
sides_of b = (b.size.0, b.size.1)

abbrev pub greatest_of : Box → Vec2 ℤ
greatest_of b = (last_of b.position.0 b.size.0, last_of b.position.1 b.size.1)

abbrev pub behind_of : Box → Vec2 ℤ
behind_of b = (last_of b.position.0 b.size.0 +ℤ pos 1, last_of b.position.1 b.size.1 +ℤ pos 1)

-- the least and the greatest place of each axis
abbrev pub corner_places : Box → List ℤ
corner_places b =
    b.position.0 ∷ b.position.1 ∷ last_of b.position.0 b.size.0 ∷ last_of b.position.1 b.size.1 ∷ []

-- no side is larger than that of a greatest size
abbrev pub fits_in : Box → Option (Vec2 ℕ) → Option (Unit {0})
fits_in b None = Some tt
fits_in b (Some most) = cond (nat_le b.size.0 most.0 && nat_le b.size.1 most.1) (Some tt) None

-- the same box elsewhere
abbrev pub moved : Vec2 ℤ → Box → Box
moved o b = record { position = (b.position.0 +ℤ o.0, b.position.1 +ℤ o.1); size = b.size }

-- an axis spans another
abbrev pub spanning : ℤ → ℤ → ℤ → ℤ → Bool
spanning least greatest low high = int_le least low && int_le high greatest

-- a box lies in another: on each axis its places are among the other's
abbrev pub inside : Box → Box → Bool
inside b c =
    spanning b.position.0 (last_of b.position.0 b.size.0) c.position.0 (last_of c.position.0 c.size.0)
    && spanning b.position.1 (last_of b.position.1 b.size.1) c.position.1 (last_of c.position.1 c.size.1)

pub record BoxesStand : Type 0 where
  -- every value of the type is a box in range
  pub ranged : (b : IntegerBounds) → box_good (box_of b) ≡ true
  -- a made box is the one that was asked for
  pub made : (b : Box) (c : IntegerBounds) → make_box b ≡ Ok (box_of c) → box_of c ≡ b
