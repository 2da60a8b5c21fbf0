-- What the rest of the engine goes by, and the shared definitions once more in other words.
use Rattle.std.specs.Prelude.{◌≡◌, ℕ, ◌+◌, ◌*◌, ◌/◌, ◌%◌, ◌<◌, ◌≤◌, true, ◌⊎◌, List, [], ◌∷◌, ◌++◌, length, ℤ, pos, negsuc, ◌≤ℤ◌, Some, None, Ok, Err, Option, ◌≢◌}
use Rattle.std.specs.Int.{int_min, int_max}
use Rattle.layout.specs.Numbers.{Bytes, EachByte, whole}
use Rattle.layout.specs.Questions.{part}
use Rattle.layout.specs.Floats.{single, double}
use Rattle.layout.specs.Names.{Named}
use Rattle.layout.specs.Boxes.{Box, last_of, axis_good, axis}
use Rattle.layout.specs.Kinds.{Fixed, box2f, int, float, rational, v2i, v2f, v3i, v3f, m33f, m44f, chromaticities, keycode, compression, envmap, line_order, tiledesc}
use Rattle.layout.specs.Kinds.{double as double_kind}
use Rattle.layout.specs.TimeCodes.{TimeCode}
use Rattle.layout.specs.Values.{Form, Numbers, Bounds, Time, Preview, Value, kind_of, bytes_of, loaded_form, Good}
use Rattle.layout.specs.Decode.{read_value, decode, Last}
use Rattle.layout.specs.Texts.{texts_in}
use Rattle.layout.specs.Records.{record_bytes}
use Rattle.layout.specs.Items.{read_item, item, ended}
use Rattle.layout.specs.Channels.{channels_in}
use Rattle.layout.specs.Puts.{Typed, value_ask, as_value}

-- ---- forms

-- what a load makes of a record's value, a header can hold
abbrev pub DecodeGood : Type 0
DecodeGood = (n xs : Bytes) (f : Form) → Named n → length xs ≤ 40960 → EachByte xs → decode n xs ≡ Ok f → Good f

abbrev pub GoodKind : Type 0
GoodKind = (f : Form) → Good f → Named (kind_of f)

-- every form that a header can hold is a value of its type, is put and loads as itself: put does not refuse all
abbrev pub PutTakes : Type 0
PutTakes = (f : Form) → Good f → Typed (as_value f) × (value_ask (as_value f) ≡ None) × (loaded_form (as_value f) ≡ f)

-- ---- reading back

-- for every kind: the bytes of a value that passes its questions read back as its loaded form, with any surplus behind it where it has a last field
abbrev pub ValuesReadBack : Type 0
ValuesReadBack =
    (v : Value) (rest : Bytes) → Typed v → value_ask v ≡ None → Last (loaded_form v) rest →
    decode (kind_of (loaded_form v)) (bytes_of (loaded_form v) ++ rest) ≡ Ok (loaded_form v)

-- a value that was read, if it is taken for writing, is written so that it reads back the same
abbrev pub ReadWritesBack : Type 0
ReadWritesBack =
    (n xs : Bytes) (f : Form) → Named n → length xs ≤ 40960 → EachByte xs → read_value n xs ≡ Ok f → value_ask (as_value f) ≡ None →
    (loaded_form (as_value f) ≡ f) × (decode (kind_of f) (bytes_of f) ≡ Ok f)

-- texts and channels are read with a bound on how many there are, which never decides: any bound that the bytes do not pass gives the same
pub record BoundNeverDecides : Type 0 where
  pub texts : (size j k : ℕ) (xs : Bytes) → length xs ≤ j → length xs ≤ k → texts_in j size xs ≡ texts_in k size xs
  pub channels : (j k : ℕ) (xs : Bytes) → length xs < j → length xs < k → channels_in j xs ≡ channels_in k xs

-- ---- records

pub record RecordsStand : Type 0 where
  -- a record has its name, its kind, its value and six bytes more
  pub sized : (n : Bytes) (f : Form) → length (record_bytes n f) ≡ length n + length (kind_of f) + length (bytes_of f) + 6
  -- written, it is what stands next in a source, whatever follows
  pub back : (s : Option ℕ) (n : Bytes) (f : Form) (rest : Bytes) → Named n → Good f → read_item 255 s (record_bytes n f ++ rest) ≡ item n (kind_of f) (bytes_of f) rest
  -- and a 00 in a name's place ends a header
  pub ends : (s : Option ℕ) (rest : Bytes) → read_item 255 s (0 ∷ rest) ≡ ended rest

-- ---- numbers

-- four named bytes and the rest
pub record WordsRead : Type 0 where
  pub four : (a b c d : ℕ) (rest : Bytes) → part 4 (a ∷ b ∷ c ∷ d ∷ rest) ≡ Ok (a ∷ b ∷ c ∷ d ∷ [], rest)
  pub number : (a b c d : ℕ) → whole (a ∷ b ∷ c ∷ d ∷ []) ≡ a + b * 256 + c * 65536 + d * 16777216
  pub three : (a b c : ℕ) → part 4 (a ∷ b ∷ c ∷ []) ≡ Err 6

-- ---- floats: sign, exponent, fraction

abbrev pub NotANumber : ℕ → ℕ → ℕ → Type 0
NotANumber fraction exponents n = (n / fraction % exponents + 1 ≡ exponents) × (n % fraction ≢ 0)

pub record FloatsOne : Type 0 where
  pub single_one : (n : ℕ) → ((single n ≡ 0x7FC00000) × NotANumber 0x800000 256 n) ⊎ ((single n ≡ n) × (NotANumber 0x800000 256 n → ⊥))
  pub double_one : (n : ℕ) → ((double n ≡ 0x7FF8000000000000) × NotANumber 0x10000000000000 2048 n) ⊎ ((double n ≡ n) × (NotANumber 0x10000000000000 2048 n → ⊥))

-- ---- boxes

pub record BoxesSpan : Type 0 where
  -- of two corners, in either order, a box has the least and the greatest
  pub least : (a b : ℤ) → (axis a b).0 ≡ int_min a b
  pub greatest : (a b : ℤ) → last_of (axis a b).0 (axis a b).1 ≡ int_max a b
  -- in range
  pub good : (l : ℤ) (n : ℕ) → axis_good l n ≡ true → (1 ≤ n) × (negsuc 1073741821 ≤ℤ l) × (l ≤ℤ last_of l n) × (last_of l n ≤ℤ pos 1073741822)
  pub from : (l : ℤ) (n : ℕ) → 1 ≤ n → negsuc 1073741821 ≤ℤ l → last_of l n ≤ℤ pos 1073741822 → axis_good l n ≡ true

-- ---- the numbers of the questions

abbrev pub PutNumbers : Type 0
PutNumbers = (v : Value) (q : ℕ) → value_ask v ≡ Some q → (2 ≤ q) × (q ≤ 13)

abbrev pub DecodeNumbers : Type 0
DecodeNumbers = (n xs : Bytes) (q : ℕ) → decode n xs ≡ Err q → (6 ≤ q) × (q ≤ 13)

-- ---- sizes: how many bytes the value of a fixed kind has

abbrev pub size_of : Fixed → ℕ
size_of box2f = 16
size_of int = 4
size_of float = 4
size_of double_kind = 8
size_of rational = 8
size_of v2i = 8
size_of v2f = 8
size_of v3i = 12
size_of v3f = 12
size_of m33f = 36
size_of m44f = 64
size_of chromaticities = 32
size_of keycode = 28
size_of compression = 1
size_of envmap = 1
size_of line_order = 1
size_of tiledesc = 9

pub record Sizes : Type 0 where
  pub numbers : (k : Fixed) (ns : List ℕ) → Good (Numbers k ns) → length (bytes_of (Numbers k ns)) ≡ size_of k
  pub box : (b : Box) → length (bytes_of (Bounds b)) ≡ 16
  pub time : (t : TimeCode) → length (bytes_of (Time t)) ≡ 8
  pub preview : (w h : ℕ) (b : Bytes) → length (bytes_of (Preview w h b)) ≡ 8 + length b
