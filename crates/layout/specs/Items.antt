-- What stands next in a source: the 00 that ends a header, or a record in two steps, its head and then its value; or a refusal.
use Rattle.std.specs.Prelude.{◌≡◌, ℕ, zero, suc, ◌+◌, ◌*◌, ◌<◌, ◌≤◌, cond, ◌⊎◌, [], ◌∷◌, ◌++◌, length, take, drop, Some, None, Option, ◌==◌, nat_le}
use Rattle.layout.specs.Numbers.{Bytes}
use Rattle.layout.specs.Names.{NonZero}

-- no byte is to come: 18 at the end, 19 at a device number
abbrev pub stop_number : Option ℕ → ℕ
stop_number None = 18
stop_number (Some d) = 19

-- the number of four bytes, the lowest first
abbrev pub four_whole : ℕ → ℕ → ℕ → ℕ → ℕ
four_whole a b c d = a + 256 * b + 65536 * c + 16777216 * d

-- ---- bytes up to a 00, of which there are at most so many

pub data Took : Type 0 where
  took : Bytes → Bytes → Took
  too_long : Bytes → Took
  ran_out : Took

abbrev pub in_front : ℕ → Took → Took
in_front b (took f rest) = took (b ∷ f) rest
in_front b (too_long rest) = too_long rest
in_front b ran_out = ran_out

unfoldable pub zero_end : ℕ → Bytes → Took
zero_end zero [] = ran_out
zero_end zero (b ∷ bs) = cond (b == 0) (took [] bs) (too_long bs)
zero_end (suc k) [] = ran_out
zero_end (suc k) (b ∷ bs) = cond (b == 0) (took [] bs) (in_front b (zero_end k bs))

-- ---- the head of a record: its name, its kind and the size of its value, and the bytes behind them

pub data Head : Type 0 where
  closing : Bytes → Head
  head : Bytes → Bytes → ℕ → Bytes → Head
  stuck : ℕ → Bytes → Head

abbrev pub size_head : Bytes → Bytes → ℕ → ℕ → Bytes → Head
size_head n k d m rest = cond (nat_le 128 d) (stuck 4 rest) (cond (nat_le m 40960) (head n k m rest) (stuck 5 rest))

unfoldable pub after_kind : Option ℕ → Bytes → Bytes → Bytes → Head
after_kind s n k [] = stuck (stop_number s) []
after_kind s n k (a ∷ []) = stuck (stop_number s) []
after_kind s n k (a ∷ (b ∷ [])) = stuck (stop_number s) []
after_kind s n k (a ∷ (b ∷ (c ∷ []))) = stuck (stop_number s) []
after_kind s n k (a ∷ (b ∷ (c ∷ (d ∷ rest)))) = size_head n k d (four_whole a b c d) rest

unfoldable pub after_name : Option ℕ → Bytes → Took → Head
after_name s n ran_out = stuck (stop_number s) []
after_name s n (too_long rest) = stuck 2 rest
after_name s n (took [] rest) = stuck 2 rest
after_name s n (took (c ∷ k) rest) = after_kind s n (c ∷ k) rest

unfoldable pub after_start : ℕ → Option ℕ → Took → Head
after_start most s ran_out = stuck (stop_number s) []
after_start most s (too_long rest) = stuck 1 rest
after_start most s (took [] rest) = closing rest
after_start most s (took (b ∷ n) rest) = after_name s (b ∷ n) (zero_end most rest)

-- names and kinds of at most so many bytes
unfoldable pub read_head : ℕ → Option ℕ → Bytes → Head
read_head most s bs = after_start most s (zero_end most bs)

-- ---- the value behind a head

pub data Item : Type 0 where
  ended : Bytes → Item
  item : Bytes → Bytes → Bytes → Bytes → Item
  broken : ℕ → Bytes → Item

abbrev pub value_item : Option ℕ → Bytes → Bytes → ℕ → Bytes → Item
value_item s n k m rest = cond (nat_le m (length rest)) (item n k (take m rest) (drop m rest)) (broken (stop_number s) [])

abbrev pub on_head : Option ℕ → Head → Item
on_head s (closing rest) = ended rest
on_head s (head n k m rest) = value_item s n k m rest
on_head s (stuck q rest) = broken q rest

unfoldable pub read_item : ℕ → Option ℕ → Bytes → Item
read_item most s bs = on_head s (read_head most s bs)

-- ---- the same in words

-- 1 to so many bytes, none zero
abbrev pub NamedBy : ℕ → Bytes → Type 0
NamedBy most n = (1 ≤ length n) × (length n ≤ most) × NonZero n

-- a name, 00, a kind, 00, four bytes and what is behind them
abbrev pub laid : Bytes → Bytes → ℕ → ℕ → ℕ → ℕ → Bytes → Bytes
laid n k a b c d rest = n ++ 0 ∷ (k ++ 0 ∷ (a ∷ (b ∷ (c ∷ (d ∷ rest)))))

-- the bytes are a beginning of a record: no byte decides before they end
pub data RunsOut (most : ℕ) (bs : Bytes) : Type 0 where
  in_name : NonZero bs → length bs ≤ most → RunsOut most bs
  in_kind : (n k : Bytes) → bs ≡ n ++ 0 ∷ k → NamedBy most n → NonZero k → length k ≤ most → RunsOut most bs
  in_size : (n k z : Bytes) → bs ≡ n ++ 0 ∷ (k ++ 0 ∷ z) → NamedBy most n → NamedBy most k → length z < 4 → RunsOut most bs
  in_value : (n k v : Bytes) (a b c d : ℕ) → bs ≡ laid n k a b c d v → NamedBy most n → NamedBy most k → d < 128
      → four_whole a b c d ≤ 40960 → length v < four_whole a b c d → RunsOut most bs

-- the byte that decides a refusal of the record layer stands last before `rest`
pub data Decides (most : ℕ) (bs rest : Bytes) : ℕ → Type 0 where
  long_name : (n : Bytes) → bs ≡ n ++ rest → NonZero n → length n ≡ suc most → Decides most bs rest 1
  no_kind : (n : Bytes) → bs ≡ n ++ 0 ∷ (0 ∷ rest) → NamedBy most n → Decides most bs rest 2
  long_kind : (n k : Bytes) → bs ≡ n ++ 0 ∷ (k ++ rest) → NamedBy most n → NonZero k → length k ≡ suc most → Decides most bs rest 2
  negative : (n k : Bytes) (a b c d : ℕ) → bs ≡ laid n k a b c d rest → NamedBy most n → NamedBy most k → 128 ≤ d → Decides most bs rest 4
  too_large : (n k : Bytes) (a b c d : ℕ) → bs ≡ laid n k a b c d rest → NamedBy most n → NamedBy most k → d < 128
      → 40960 < four_whole a b c d → Decides most bs rest 5

-- no byte is to come: 18 at the end, 19 at a device number
abbrev pub StopsWith : Option ℕ → ℕ → Type 0
StopsWith s q = ((s ≡ None) × (q ≡ 18)) ⊎ ((d : ℕ) × (s ≡ Some d) × (q ≡ 19))

-- what stands next in a source that stops so
abbrev pub Reads : ℕ → Option ℕ → Bytes → Item → Type 0
Reads most s bs (ended rest) = bs ≡ 0 ∷ rest
Reads most s bs (item n k v rest) =
    (a : ℕ) × (b : ℕ) × (c : ℕ) × (d : ℕ) × (bs ≡ laid n k a b c d (v ++ rest)) × NamedBy most n × NamedBy most k × (d < 128)
    × (four_whole a b c d ≡ length v) × (length v ≤ 40960)
Reads most s bs (broken q rest) = (RunsOut most bs × StopsWith s q × (rest ≡ [])) ⊎ Decides most bs rest q

-- what is read next is exactly what stands there
abbrev pub ItemsRead : Type 0
ItemsRead = (most : ℕ) (s : Option ℕ) (bs : Bytes) (i : Item) → (read_item most s bs ≡ i → Reads most s bs i) × (Reads most s bs i → read_item most s bs ≡ i)
