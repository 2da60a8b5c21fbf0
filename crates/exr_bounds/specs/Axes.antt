-- Axes of boxes.
use Rattle.std.specs.Prelude.{ℕ, ℤ, Ok, Err, Result}
use Rattle.exr_error.specs.declared.refusal.Refusal.{Refusal}
use Rattle.exr_error.specs.Refusals.{number_of}
use Rattle.layout.specs.Questions.{asked}
use Rattle.layout.specs.Boxes.{axis_good}
use Rattle.exr_bounds.specs.declared.axis.Axis.{Axis}

-- making an axis of its least place and its side
abbrev pub make_axis : ℤ × ℕ → Result (ℤ × ℕ) ℕ
make_axis a = asked (axis_good a.0 a.1) 11 a

-- a made axis by its meaning, or the number of the refusal
abbrev pub axis_seen : Result Axis Refusal → Result (ℤ × ℕ) ℕ
axis_seen (Ok a) = Ok (a.least, a.side)
axis_seen (Err e) = Err (number_of e)
