-- A number of at most eight bytes, in the front of an array of eight.
use Rattle.std.proofs.Common.{◌≡◌, ℕ, zero, suc, ◌+◌, ◌*◌, ◌/◌, ◌%◌, ◌<◌, ◌≤◌, [], ◌∷◌, ◌++◌, length, get_or, take, replicate, sym, refl, ap, subst, mod-eq_of_lt, arith}
use native.Mathlib.Nat.{div-div-eq-div-mul}
use Rattle.std.proofs.lemmas.List.{length-take-le}
use Rattle.layout.specs.Numbers.{Bytes, EachByte, whole, range, low_first}
use Rattle.layout.proofs.Numbered.{bytes_take, whole_fits}

-- the first bytes of a number are those of a smaller width
pub take-low_first : (w v n : ℕ) → w ≤ v → take w (low_first v n) ≡ low_first w n
take-low_first zero v n h = refl
take-low_first (suc w) zero n h = absurd (omega arith)
take-low_first (suc w) (suc v) n h = ap (λ t. n % 256 ∷ t) (take-low_first w v (n / 256) (omega arith))

-- the eight bytes of a word, each by its place
abbrev pub eight_bytes : ℕ → Bytes
eight_bytes n = (n % 256) ∷ (n / 256 % 256) ∷ (n / 65536 % 256) ∷ (n / 16777216 % 256) ∷ (n / 4294967296 % 256) ∷ (n / 1099511627776 % 256) ∷ (n / 281474976710656 % 256) ∷ (n / 72057594037927936 % 256) ∷ []

pub eight_low_first : (n : ℕ) → eight_bytes n ≡ low_first 8 n
eight_low_first n =
    let d : (k : ℕ) → n / k / 256 ≡ n / (k * 256) = λ k. div-div-eq-div-mul n k 256 in
    sym (simp d)

-- the number of eight bytes, each by its place
abbrev pub eight_whole : Bytes → ℕ
eight_whole bs = get_or bs 0 0 + get_or bs 1 0 * 256 + get_or bs 2 0 * 65536 + get_or bs 3 0 * 16777216 + get_or bs 4 0 * 4294967296 + get_or bs 5 0 * 1099511627776 + get_or bs 6 0 * 281474976710656 + get_or bs 7 0 * 72057594037927936

pub whole_eight : (bs : Bytes) → length bs ≡ 8 → eight_whole bs ≡ whole bs
whole_eight [] h = absurd (omega arith)
whole_eight (a ∷ []) h = absurd (omega arith)
whole_eight (a ∷ b ∷ []) h = absurd (omega arith)
whole_eight (a ∷ b ∷ c ∷ []) h = absurd (omega arith)
whole_eight (a ∷ b ∷ c ∷ d ∷ []) h = absurd (omega arith)
whole_eight (a ∷ b ∷ c ∷ d ∷ e ∷ []) h = absurd (omega arith)
whole_eight (a ∷ b ∷ c ∷ d ∷ e ∷ f ∷ []) h = absurd (omega arith)
whole_eight (a ∷ b ∷ c ∷ d ∷ e ∷ f ∷ g ∷ []) h = absurd (omega arith)
whole_eight (a ∷ b ∷ c ∷ d ∷ e ∷ f ∷ g ∷ i ∷ []) h = omega arith
whole_eight (a ∷ b ∷ c ∷ d ∷ e ∷ f ∷ g ∷ i ∷ j ∷ bs) h = absurd (omega arith)

-- zeros behind do not count
abbrev pub zeros : ℕ → Bytes
zeros k = replicate k 0

whole_zeros : (k : ℕ) → whole (zeros k) ≡ 0
whole_zeros zero = refl
whole_zeros (suc k) = omega (arith, whole_zeros k)

pub whole_before_zeros : (bs : Bytes) (k : ℕ) → whole (bs ++ zeros k) ≡ whole bs
whole_before_zeros [] k = whole_zeros k
whole_before_zeros (b ∷ bs) k = ap (λ n. b + 256 * n) (whole_before_zeros bs k)

-- the bytes of a width are a number of that width
pub whole_small : (w : ℕ) (bs : Bytes) → EachByte bs → w ≤ length bs → whole (take w bs) % range w ≡ whole (take w bs)
whole_small w bs h k =
    let small : whole (take w bs) < range w = subst (λ n. whole (take w bs) < range n) (length-take-le w bs k) (whole_fits (take w bs) (bytes_take w bs h)) in
    mod-eq_of_lt small
