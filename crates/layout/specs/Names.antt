-- Names: 1 to 255 bytes, none zero, and their order: the first byte that differs decides, and a name precedes its extensions.
use Rattle.std.specs.Prelude.{◌≡◌, ℕ, suc, ◌<◌, ◌≤◌, Bool, true, cond, not, ◌&&◌, ◌⊎◌, [], ◌∷◌, ◌++◌, length, drop, ◌==◌, ◌≢◌, nat_le}
use Prim.Native.Nat.{compare, Ordering}
use Rattle.layout.specs.Numbers.{Bytes}
use Rattle.layout.specs.Questions.{Answer, next, asked}

abbrev pub NonZero : Bytes → Type 0
NonZero [] = Unit {0}
NonZero (b ∷ bs) = (b ≢ 0) × NonZero bs

abbrev pub Named : Bytes → Type 0
Named n = (1 ≤ length n) × (length n ≤ 255) × NonZero n

abbrev pub non_zero : Bytes → Bool
non_zero [] = true
non_zero (b ∷ bs) = not (b == 0) && non_zero bs

unfoldable pub named : Bytes → Bool
named n = nat_le 1 (length n) && (nat_le (length n) 255 && non_zero n)

-- the bytes before the first 00, or all
unfoldable pub before_zero : Bytes → Bytes
before_zero [] = []
before_zero (b ∷ bs) = cond (b == 0) [] (b ∷ before_zero bs)

-- a channel's name and its 00: a name of more than 255 bytes is refused at its 256th
unfoldable pub channel_name : Bytes → Answer Bytes
channel_name xs =
    next (asked (nat_le (length (before_zero xs)) 255) 9 (before_zero xs, xs)) (λ n xs.
    asked (nat_le (suc (length n)) (length xs)) 6 (n, drop (suc (length n)) xs))

-- ---- the order

-- the first that differs decides
abbrev pub and_then : Ordering → Ordering → Ordering
and_then Ordering.lt o = Ordering.lt
and_then Ordering.eq o = o
and_then Ordering.gt o = Ordering.gt

abbrev pub flip : Ordering → Ordering
flip Ordering.lt = Ordering.gt
flip Ordering.eq = Ordering.eq
flip Ordering.gt = Ordering.lt

unfoldable pub cmp : Bytes → Bytes → Ordering
cmp [] [] = Ordering.eq
cmp [] (b ∷ bs) = Ordering.lt
cmp (a ∷ xs) [] = Ordering.gt
cmp (a ∷ xs) (b ∷ bs) = and_then (compare a b) (cmp xs bs)

-- in words: n comes before m if behind a common front a byte is less, or if m extends n
pub data Precedes (n m : Bytes) : Type 0 where
  by_byte : (front xs ys : Bytes) (a b : ℕ) → n ≡ front ++ a ∷ xs → m ≡ front ++ b ∷ ys → a < b → Precedes n m
  by_extension : (b : ℕ) (ys : Bytes) → m ≡ n ++ b ∷ ys → Precedes n m

-- the order is total, and is the one in words
pub record NamesOrdered : Type 0 where
  -- only equal names are neither before nor behind each other
  pub same : (n m : Bytes) → (cmp n m ≡ Ordering.eq → n ≡ m) × (n ≡ m → cmp n m ≡ Ordering.eq)
  -- of two names one comes before the other exactly if the other comes behind it
  pub turned : (n m : Bytes) → cmp m n ≡ flip (cmp n m)
  -- before what is before
  pub through : (n m o : Bytes) → cmp n m ≡ Ordering.lt → cmp m o ≡ Ordering.lt → cmp n o ≡ Ordering.lt
  -- by a lesser byte behind a common front, or as a front
  pub in_words : (n m : Bytes) → (cmp n m ≡ Ordering.lt → Precedes n m) × (Precedes n m → cmp n m ≡ Ordering.lt)
  -- one of the three
  pub three : (n m : Bytes) → (n ≡ m) ⊎ (Precedes n m ⊎ Precedes m n)
  -- never two of them
  pub apart : (n m : Bytes) → Precedes n m → Precedes m n → ⊥
