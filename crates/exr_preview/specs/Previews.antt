-- Pictures of the code, as the layout has them.
use Rattle.std.specs.Prelude.{ℕ, Bool, true, false, ◌+◌, ◌*◌, cond, ◌&&◌, [], ◌∷◌, ◌++◌, length, Some, None, Ok, Err, Option, Result, ◌==◌, nat_le}
use Rattle.std.specs.Borrow.{Bor}
use Rattle.exr_error.specs.declared.refusal.Refusal.{Refusal}
use Rattle.exr_error.specs.declared.refusal.Refusal.TheVariants.{InvalidSides}
use Rattle.exr_error.specs.Refusals.{number_of}
use Rattle.layout.specs.Numbers.{Bytes}
use Rattle.layout.specs.Questions.{Answer, part}
use Rattle.layout.specs.Fields.{field_bytes}
use Rattle.layout.specs.Decode.{sides}
use Rattle.layout.specs.Values.{Form}
use Rattle.layout.specs.Values as values
use Rattle.exr_vec2.specs.declared.Vec2.{Vec2}
use Rattle.exr_preview.specs.declared.preview.Preview.{Preview}

-- the picture by its sides and its pixels
abbrev pub preview_form : Preview → Form
preview_form p = values.Preview p.size.0 p.size.1 p.pixel_data.now

abbrev pub pixel_bytes : ℕ → ℕ → ℕ
pixel_bytes w h = 4 * w * h

-- two parts of some bytes, or the number of the refusal
abbrev pub split : Result (Bor Bytes × Bor Bytes) Refusal → Answer Bytes
split (Ok p) = Ok (p.0.now, p.1.now)
split (Err e) = Err (number_of e)

abbrev pub pixels_at : ℕ → Bytes → Answer Bytes
pixels_at n xs = part n xs

-- sides of at most 4294967295, and just their pixels
abbrev pub preview_fits : Preview → Bool
preview_fits p = nat_le p.size.0 4294967295 && (nat_le p.size.1 4294967295 && length p.pixel_data.now == 4 * p.size.0 * p.size.1)

-- what is asked of a picture to be written
abbrev pub preview_ask : Preview → Option ℕ
preview_ask p = cond (preview_fits p) None (Some 12)

-- the sides of a picture that fits, or 12
abbrev pub sides_or : Bool → Vec2 ℕ → Result (Vec2 ℕ) Refusal
sides_or true s = Ok s
sides_or false s = Err InvalidSides

-- width, height and pixels
abbrev pub preview_bytes : ℕ → ℕ → Bytes → Bytes
preview_bytes w h b = field_bytes sides (w ∷ h ∷ []) ++ b

abbrev pub preview_size : Preview → ℕ
preview_size p = 8 + length p.pixel_data.now
