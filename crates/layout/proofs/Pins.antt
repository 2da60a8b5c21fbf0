-- Words, floats and boxes in other words.
use Rattle.std.proofs.Common.{◌≡◌, ℕ, suc, ◌-◌, ◌%◌, ◌≤◌, Bool, true, false, cond, ltb, ◌⊎◌, List, [], ◌∷◌, ◌++◌, length, ℤ, pos, negsuc, ◌+ℤ◌, ◌-ℤ◌, nat_abs, ◌≤ℤ◌, refl, ◌∙◌, inl, inr, arith, length-append}
use lib.Signed.{le_z}
use Rattle.std.specs.Int.{int_min, int_max}
use Rattle.std.proofs.lemmas.Int.{ints, clamps}
use Rattle.std.proofs.lemmas.Bool.Decides.{nat_tests}
use Rattle.std.proofs.lemmas.Bool.{leb-true, leb-false}
use Rattle.layout.specs.Numbers.{low_first}
use Rattle.layout.specs.Boxes.{last_of, axis}
use Rattle.layout.specs.Fields.{Field, Held, field_bytes, size}
use Rattle.layout.specs.TimeCodes.{time_numbers}
use Rattle.layout.specs.Kinds.{Fixed, box2f, int, float, rational, v2i, v2f, v3i, v3f, m33f, m44f, chromaticities, keycode, compression, envmap, line_order, tiledesc, fields_of}
use Rattle.layout.specs.Kinds.{double as double_kind}
use Rattle.layout.specs.Values.{bytes_of, Shaped}
use Rattle.layout.specs.Laws.{size_of, Sizes, WordsRead, NotANumber, FloatsOne, BoxesSpan}
use Rattle.layout.proofs.Numbered.{length-low_first}
use Rattle.layout.proofs.Reading.{part_back}

pub words_read : WordsRead
words_read = record {
  four = λ a b c d rest. part_back 4 (a ∷ b ∷ c ∷ d ∷ []) rest refl;
  number = λ a b c d. omega arith;
  three = λ a b c. refl;
}

single_is : (n : ℕ) (t : Bool) → ltb 0x7F800000 (n % 0x80000000) ≡ t → ((cond t 0x7FC00000 n ≡ 0x7FC00000) × NotANumber 0x800000 256 n) ⊎ ((cond t 0x7FC00000 n ≡ n) × (NotANumber 0x800000 256 n → ⊥))
single_is n true e = let h = leb-true (suc 0x7F800000) (n % 0x80000000) e in inl (refl, (omega arith, λ z. omega arith))
single_is n false e = let h = leb-false (suc 0x7F800000) (n % 0x80000000) e in inr (refl, λ p. omega (arith, p.0, p.1))

double_is : (n : ℕ) (t : Bool) → ltb 0x7FF0000000000000 (n % 0x8000000000000000) ≡ t →
    ((cond t 0x7FF8000000000000 n ≡ 0x7FF8000000000000) × NotANumber 0x10000000000000 2048 n) ⊎ ((cond t 0x7FF8000000000000 n ≡ n) × (NotANumber 0x10000000000000 2048 n → ⊥))
double_is n true e = let h = leb-true (suc 0x7FF0000000000000) (n % 0x8000000000000000) e in inl (refl, (omega arith, λ z. omega arith))
double_is n false e = let h = leb-false (suc 0x7FF0000000000000) (n % 0x8000000000000000) e in inr (refl, λ p. omega (arith, p.0, p.1))

pub floats_one : FloatsOne
floats_one = record {
  single_one = λ n. single_is n (ltb 0x7F800000 (n % 0x80000000)) refl;
  double_one = λ n. double_is n (ltb 0x7FF0000000000000 (n % 0x8000000000000000)) refl;
}

from_le_z : (a b : ℤ) → le_z a b ≡ true → a ≤ℤ b
from_le_z a b t = grind (arith, ints)

to_le_z : (a b : ℤ) → a ≤ℤ b → le_z a b ≡ true
to_le_z a b t = grind (arith, ints)

last_greatest : (a b : ℤ) → last_of (axis a b).0 (axis a b).1 ≡ int_max a b
last_greatest a b = at (int_max a b) (int_min a b) (let h : int_min a b ≤ℤ int_max a b = omega (arith, ints, clamps) in h)
  where
    at : (g l : ℤ) → l ≤ℤ g → l +ℤ pos (nat_abs (g -ℤ l +ℤ pos 1) - 1) ≡ g
    at g l h = omega (arith, ints)

pub boxes_span : BoxesSpan
boxes_span = record {
  least = λ a b. refl;
  greatest = last_greatest;
  good = λ l n ok.
      let some : 1 ≤ n = grind (arith, nat_tests) in
      let a : negsuc 1073741821 ≤ℤ l = from_le_z _ _ (grind (arith, nat_tests)) in
      let b : last_of l n ≤ℤ pos 1073741822 = from_le_z _ _ (grind (arith, nat_tests)) in
      (some, a, let c : l ≤ℤ last_of l n = omega (arith, ints) in c, b);
  from = λ l n some low high.
      let a = to_le_z (negsuc 1073741821) l low in
      let b = to_le_z (last_of l n) (pos 1073741822) high in
      grind (arith, nat_tests);
}

-- ---- sizes

fields_length : (fs : List Field) (ns : List ℕ) → Held fs ns → length (field_bytes fs ns) ≡ size fs
unfolding Held
fields_length [] [] h = refl
fields_length [] (n ∷ ns) h = absurd h
fields_length (f ∷ fs) [] h = absurd h
fields_length (f ∷ fs) (n ∷ ns) h =
    let m = length-append (low_first f.width n) (field_bytes fs ns) in
    let k = length-low_first f.width n in
    let ih = fields_length fs ns h.3 in
    omega arith

sizes_are : (k : Fixed) → size (fields_of k) ≡ size_of k
sizes_are box2f = refl
sizes_are int = refl
sizes_are float = refl
sizes_are double_kind = refl
sizes_are rational = refl
sizes_are v2i = refl
sizes_are v2f = refl
sizes_are v3i = refl
sizes_are v3f = refl
sizes_are m33f = refl
sizes_are m44f = refl
sizes_are chromaticities = refl
sizes_are keycode = refl
sizes_are compression = refl
sizes_are envmap = refl
sizes_are line_order = refl
sizes_are tiledesc = refl

pub sizes : Sizes
unfolding bytes_of Shaped time_numbers
sizes = record {
  numbers = λ k ns g. fields_length (fields_of k) ns g.0 ∙ sizes_are k;
  box = λ b. refl;
  time = λ t. refl;
  preview = λ w h b. length-append (low_first 4 w ++ (low_first 4 h ++ [])) b;
}
