-- Floats that are written are read back.
use Rattle.std.proofs.Common.{◌≡◌, ℕ, ◌%◌, ◌<◌, Bool, true, false, cond, ltb, List, [], ◌∷◌, map, length, replicate, refl, ap, arith}
use Rattle.std.specs.List.{All}
use Rattle.std.proofs.lemmas.List.Elements.{All-head, All-tail}
use lib.Ieee.{Float, binary32, binary64}
use Rattle.layout.specs.Numbers.{range}
use Rattle.layout.specs.Floats.{one_nan, single, double}
use Rattle.layout.specs.Fields.{Field, f32, f64, field_bytes, Held}
use Rattle.layout.proofs.Fielded.{fields_back, fields_written}
use Rattle.exr_float.specs.declared.bits.FloatBits.{FloatBits}
use Rattle.exr_float.specs.Floats.{float_of, double_of, held}
use Rattle.exr_float.specs.Patterns.{same}
use Rattle.exr_float_io.specs.Back.{Wide, ReadBack, FloatsReadBack}

-- what is kept is of the width, and is kept as it is
module _ (sign infinity nan : ℕ) where
  below : (top : ℕ) (b : Bool) (n : ℕ) → nan < top → n < top → cond b nan n < top
  below top true n h k = h
  below top false n h k = k

  again : ltb infinity (nan % sign) ≡ true → (n : ℕ) (b : Bool) → ltb infinity (n % sign) ≡ b → one_nan sign infinity nan (cond b nan n) ≡ cond b nan n
  again h n true e = ap (λ (b : Bool). cond b nan nan) h
  again h n false e = ap (λ (b : Bool). cond b nan n) e

-- fields of one sort, each of which holds what it keeps of bits and keeps the float
module _ (field : Field) (width : ℕ) (float : FloatBits ℕ → Float) (holds : (b : FloatBits ℕ) → Wide width b → Held (field ∷ []) (field.keeps b.bits ∷ [])) (keeps : (b : FloatBits ℕ) → Wide width b → float (record { bits = field.keeps b.bits }) ≡ float b) where
  held_each : (bs : List (FloatBits ℕ)) → All (Wide width) bs → Held (replicate (length bs) field) (map field.keeps (held bs))
  unfolding Held
  held_each [] h = tt
  held_each (b ∷ bs) h = let k = holds b (All-head (Wide width) b bs h) in (k.0, k.1, k.2, held_each bs (All-tail (Wide width) b bs h))

  same_each : (bs : List (FloatBits ℕ)) → All (Wide width) bs → map (λ b. float (record { bits = field.keeps b.bits })) bs ≡ map float bs
  same_each [] h = refl
  same_each (b ∷ bs) h = λ i. keeps b (All-head (Wide width) b bs h) i ∷ same_each bs (All-tail (Wide width) b bs h) i

  pub read_back : (bs : List (FloatBits ℕ)) → All (Wide width) bs → ReadBack field.keeps float (replicate (length bs) field) bs
  read_back bs h = record {
    back = λ rest.
        let fs = replicate (length bs) field in
        let ns = map field.keeps (held bs) in
        fields_back fs ns (field_bytes fs ns) rest (fields_written fs ns (held_each bs h));
    same = same_each bs h;
  }

single_held : (b : FloatBits ℕ) → Wide 32 b → Held (f32 ∷ []) (single b.bits ∷ [])
unfolding Held
single_held b h =
    let t = ltb 0x7F800000 (b.bits % 0x80000000) in
    (below 0x80000000 0x7F800000 0x7FC00000 (range 4) t b.bits (omega arith) h, refl, again 0x80000000 0x7F800000 0x7FC00000 refl b.bits t refl, tt)

double_held : (b : FloatBits ℕ) → Wide 64 b → Held (f64 ∷ []) (double b.bits ∷ [])
unfolding Held
double_held b h =
    let t = ltb 0x7FF0000000000000 (b.bits % 0x8000000000000000) in (
      below 0x8000000000000000 0x7FF0000000000000 0x7FF8000000000000 (range 8) t b.bits (omega arith) h,
      refl,
      again 0x8000000000000000 0x7FF0000000000000 0x7FF8000000000000 refl b.bits t refl,
      tt,
    )

pub floats_read_back_lem : FloatsReadBack
floats_read_back_lem =
    let singles = read_back f32 32 float_of single_held (λ b h. same binary32 b.bits h) in
    record {
      single = λ b h. singles (b ∷ []) h;
      pair = λ p h. singles (p.0 ∷ p.1 ∷ []) h;
      triple = λ t h. singles (t.0 ∷ t.1 ∷ t.2 ∷ []) h;
      wide = λ b h. read_back f64 64 double_of double_held (λ b h. same binary64 b.bits h) (b ∷ []) h;
    }
