-- A box is good exactly if both its axes are.
use Rattle.std.proofs.Common.{◌≡◌, ℕ, ◌+◌, Bool, true, false, ◌&&◌, ℤ, pos, ◌+ℤ◌, ◌-ℤ◌, unsigned_abs, Ok, Err, arith}
use Rattle.std.specs.Int.{int_min, int_max}
use Rattle.std.proofs.lemmas.Int.{ints}
use Rattle.layout.specs.Questions.{asked}
use Rattle.layout.specs.Boxes.{Box, axis_good, make_box}
use Rattle.exr_bounds.specs.declared.axis.Axis.{Axis}
use Rattle.exr_bounds.specs.Axes.{make_axis}
use Rattle.exr_bounds.specs.Bounds.{box_of}

abbrev box : ℤ × ℕ → ℤ × ℕ → Box
box a b = record { position = (a.0, b.0); size = (a.1, b.1) }

x_refused : {A B : Type 0} (s t : Bool) (a : A) (b : B) (n : ℕ) → Err n ≡ asked s 11 a → Err n ≡ asked (s && t) 11 b
x_refused true t a b n e = cc
x_refused false t a b n e = cc

y_refused : {A B : Type 0} (s t : Bool) (x a c : A) (b : B) (n : ℕ) → Ok x ≡ asked s 11 a → Err n ≡ asked t 11 c → Err n ≡ asked (s && t) 11 b
y_refused true true x a c b n e f = cc
y_refused true false x a c b n e f = cc
y_refused false t x a c b n e f = cc

both_made : (s t : Bool) (x y a b : ℤ × ℕ) → Ok x ≡ asked s 11 a → Ok y ≡ asked t 11 b → Ok (box x y) ≡ asked (s && t) 11 (box a b)
both_made true true x y a b e f = cc
both_made true false x y a b e f = cc
both_made false t x y a b e f = cc

-- the number of the first axis that is refused is the box's
pub no_x : (b : Box) (n : ℕ) → Err n ≡ make_axis (b.position.0, b.size.0) → Err n ≡ make_box b
no_x b n e = x_refused (axis_good b.position.0 b.size.0) (axis_good b.position.1 b.size.1) (b.position.0, b.size.0) b n e

pub no_y : (b : Box) (x : Axis) (n : ℕ) → Ok (x.least, x.side) ≡ make_axis (b.position.0, b.size.0) → Err n ≡ make_axis (b.position.1, b.size.1) → Err n ≡ make_box b
no_y b x n e f = y_refused (axis_good b.position.0 b.size.0) (axis_good b.position.1 b.size.1) (x.least, x.side) (b.position.0, b.size.0) (b.position.1, b.size.1) b n e f

-- two axes that are made are the box's
pub two_axes : (b : Box) (x y : Axis) →
    Ok (x.least, x.side) ≡ make_axis (b.position.0, b.size.0) → Ok (y.least, y.side) ≡ make_axis (b.position.1, b.size.1) → Ok (box_of (record { x = x; y = y })) ≡ make_box b
two_axes b x y e f =
    both_made (axis_good b.position.0 b.size.0) (axis_good b.position.1 b.size.1) (x.least, x.side) (y.least, y.side) _ _ e f

-- how many places there are from one to another
pub places : (a b : ℤ) → unsigned_abs (a -ℤ b) + 1 ≡ unsigned_abs (int_max a b -ℤ int_min a b +ℤ pos 1)
places a b = grind (arith, ints)
