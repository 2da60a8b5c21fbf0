-- Numbers as bytes, the lowest byte first.
use Rattle.std.specs.Prelude.{◌≡◌, ℕ, zero, suc, ◌+◌, ◌*◌, ◌/◌, ◌%◌, ◌<◌, Bool, true, ◌&&◌, List, [], ◌∷◌, length, nat_lt}

abbrev pub Bytes : Type 0
Bytes = List ℕ

-- each byte is below 256, as a test
abbrev pub all_bytes : Bytes → Bool
all_bytes [] = true
all_bytes (b ∷ bs) = nat_lt b 256 && all_bytes bs

abbrev pub EachByte : Bytes → Type 0
EachByte bs = all_bytes bs ≡ true

-- the number that some bytes are
abbrev pub whole : Bytes → ℕ
whole [] = 0
whole (b ∷ bs) = b + 256 * whole bs

-- how many numbers a width has
abbrev pub range : ℕ → ℕ
range zero = 1
range (suc width) = 256 * range width

-- a number in so many bytes
abbrev pub low_first : ℕ → ℕ → Bytes
low_first zero n = []
low_first (suc width) n = n % 256 ∷ low_first width (n / 256)

-- ---- the laws

pub record NumbersAsBytes : Type 0 where
  -- a number has as many bytes as its width says, each below 256
  pub long : (width n : ℕ) → length (low_first width n) ≡ width
  pub bytes : (width n : ℕ) → EachByte (low_first width n)
  -- it reads back from them
  pub back : (width n : ℕ) → n < range width → whole (low_first width n) ≡ n
  -- bytes are a number of their width, and are its bytes
  pub fits : (bs : Bytes) → EachByte bs → whole bs < range (length bs)
  pub same : (bs : Bytes) → EachByte bs → low_first (length bs) (whole bs) ≡ bs
