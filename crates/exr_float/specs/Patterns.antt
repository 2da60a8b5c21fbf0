-- Patterns of bits, read as floats and written again.
use Rattle.std.proofs.Common.{◌≡◌, ℕ, ◌+◌, ◌*◌, ◌/◌, ◌%◌, ◌<◌, Bool, true, false, cond, not, T, ltb, sym, refl, ap, ◌∙◌, subst}
use Rattle.std.proofs.lemmas.Bool.{false≢true}
use lib.Ieee.{Float, nan, inf, fin, Format, binary32, binary64, hid, ones, top, is_nan, of_bits, to_bits}
use lib.Ieee.Bits.{of_bits-to_bits, of_bits-fits, to_bits-of_bits, nan_bits_is, nan_bits_above}
use Rattle.layout.specs.Floats.{one_nan, single, double}
use Rattle.layout.specs.Numbers.{range}

-- the pattern of what is not a number
abbrev quiet : Format → ℕ
quiet f = ones f * hid f + hid f / 2

nan_kept : (f : Format) (x : Float) → is_nan x ≡ true → to_bits f x ≡ quiet f
unfolding is_nan to_bits
nan_kept f nan e = refl
nan_kept f (inf s) e = absurd (false≢true e)
nan_kept f (fin s m k) e = absurd (false≢true e)

by_case : (f : Format) (n : ℕ) (b : Bool) → n < 2 * top f → is_nan (of_bits f n) ≡ b → to_bits f (of_bits f n) ≡ cond b (quiet f) n
by_case f n true h e = nan_kept f (of_bits f n) e
by_case f n false h e = to_bits-of_bits f n h (subst (λ (b : Bool). T (not b)) (sym e) tt)

kept : (f : Format) (n : ℕ) → n < 2 * top f → to_bits f (of_bits f n) ≡ one_nan (top f) (ones f * hid f) (quiet f) n
kept f n h = by_case f n (ltb (ones f * hid f) (n % top f)) h (sym (nan_bits_is f n) ∙ nan_bits_above f n)

pub same : (f : Format) (n : ℕ) → n < 2 * top f → of_bits f (one_nan (top f) (ones f * hid f) (quiet f) n) ≡ of_bits f n
same f n h = ap (of_bits f) (sym (kept f n h)) ∙ of_bits-to_bits f (of_bits f n) (of_bits-fits f n)

pub single_kept : (n : ℕ) → n < range 4 → to_bits binary32 (of_bits binary32 n) ≡ single n
single_kept = kept binary32

pub double_kept : (n : ℕ) → n < range 8 → to_bits binary64 (of_bits binary64 n) ≡ double n
double_kept = kept binary64
