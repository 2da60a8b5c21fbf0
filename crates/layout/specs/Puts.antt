-- The questions that put asks of a value, and the loaded form's three exceptions.
use Rattle.std.specs.Prelude.{◌≡◌, ℕ, ◌*◌, ◌/◌, ◌%◌, ◌<◌, ◌≤◌, Bool, true, false, cond, ◌&&◌, ◌⊎◌, List, [], ◌∷◌, length, Some, None, Option, ◌==◌, ◌≢◌, nat_le, slice_index}
use Rattle.layout.specs.Numbers.{Bytes, range}
use Rattle.layout.specs.Questions.{Question, FirstNo}
use Rattle.layout.specs.Fields.{Field}
use Rattle.layout.specs.Names.{Named, named}
use Rattle.layout.specs.Enumerations.{Compression, Uncompressed, Singular, Down, compressions, level_modes, rounding_modes, nth, compression_code}
use Rattle.layout.specs.Kinds.{Fixed, box2f, int, float, double, rational, v2i, v2f, v3i, v3f, m33f, m44f, chromaticities, keycode, compression, envmap, line_order, tiledesc, Kind, kind_named, fields_of}
use Rattle.layout.specs.Boxes.{box_good}
use Rattle.layout.specs.TimeCodes.{valid, Sized}
use Rattle.layout.specs.Values.{Form, Value, numbers, compressed, tiles, block, bounds, time, picture, text, texts, hinted, channels, custom, GivenChannel, loaded_form, bytes_of, kept, Good}
use Rattle.layout.specs.Channels.{Channel}
use Rattle.layout.specs.Values as values

-- ---- what the type of a value gives

-- each number fits its field, and a code is one of its cases
unfoldable pub TypedNumbers : List Field → List ℕ → Type 0
TypedNumbers [] [] = Unit {0}
TypedNumbers [] (n ∷ ns) = ⊥
TypedNumbers (f ∷ fs) [] = ⊥
TypedNumbers (f ∷ fs) (n ∷ ns) = (n < range f.width) × (f.admits n ≡ true) × TypedNumbers fs ns

abbrev pub TypedChannels : List GivenChannel → Type 0
TypedChannels [] = Unit {0}
TypedChannels (c ∷ cs) = (c.sample ≤ 2) × (c.linear ≤ 1) × TypedChannels cs

-- a level stands with codes 8 and 9 only
abbrev pub TypedLevel : Compression → Option ℕ → Type 0
TypedLevel c None = Unit {0}
TypedLevel c (Some bits) = (8 ≤ compression_code c) × (compression_code c ≤ 9)

-- compression and tile description are values of their own
unfoldable pub Typed : Value → Type 0
Typed (numbers k ns) = (k ≢ compression) × (k ≢ tiledesc) × TypedNumbers (fields_of k) ns
Typed (compressed c level) = TypedLevel c level
Typed (tiles w h level rounding) = Unit {0}
Typed (block t) = Unit {0}
Typed (bounds b) = box_good b ≡ true
Typed (time t) = Sized t
Typed (picture w h b) = Unit {0}
Typed (text b) = Unit {0}
Typed (texts ts) = Unit {0}
Typed (hinted h b) = Unit {0}
Typed (channels cs) = TypedChannels cs
Typed (custom k b) = Unit {0}

-- ---- the questions

abbrev pub There : Option Bytes → Type 0
There (Some b) = Unit {0}
There None = ⊥

abbrev pub AllThere : List (Option Bytes) → Type 0
AllThere [] = Unit {0}
AllThere (t ∷ ts) = There t × AllThere ts

abbrev pub NameThere : Option Bytes → Type 0
NameThere (Some b) = Named b
NameThere None = ⊥

abbrev pub AllNamed : List GivenChannel → Type 0
AllNamed [] = Unit {0}
AllNamed (c ∷ cs) = NameThere c.name × AllNamed cs

abbrev pub AllSampled : List GivenChannel → Type 0
AllSampled [] = Unit {0}
AllSampled (c ∷ cs) = (c.x ≤ 2147483647) × (c.y ≤ 2147483647) × AllSampled cs

-- at most 40,960 bytes
abbrev pub small : Value → Question
small v = (5, length (bytes_of (loaded_form v)) ≤ 40960)

unfoldable pub value_questions : Value → List Question
value_questions (numbers k ns) = small (numbers k ns) ∷ []
value_questions (compressed c level) = small (compressed c level) ∷ []
value_questions (tiles w h level rounding) = (12, (w ≤ 4294967295) × (h ≤ 4294967295)) ∷ small (tiles w h level rounding) ∷ []
value_questions (block t) = small (block t) ∷ []
value_questions (bounds b) = small (bounds b) ∷ []
value_questions (time t) = (13, valid t ≡ true) ∷ small (time t) ∷ []
value_questions (picture w h b) = (12, (w ≤ 4294967295) × (h ≤ 4294967295) × (length b ≡ 4 * w * h)) ∷ small (picture w h b) ∷ []
value_questions (text b) = small (text b) ∷ []
value_questions (texts ts) = (10, AllThere ts) ∷ small (texts ts) ∷ []
value_questions (hinted h b) = small (hinted h b) ∷ []
value_questions (channels cs) = (9, AllNamed cs) ∷ (10, AllSampled cs) ∷ small (channels cs) ∷ []
value_questions (custom k b) = (2, Named k) ∷ (3, kind_named k ≡ None) ∷ small (custom k b) ∷ []

-- ---- the same by tests, in order

abbrev pub there : Option Bytes → Bool
there (Some b) = true
there None = false

abbrev pub all_there : List (Option Bytes) → Bool
all_there [] = true
all_there (t ∷ ts) = there t && all_there ts

abbrev pub name_there : Option Bytes → Bool
name_there (Some b) = named b
name_there None = false

abbrev pub all_named : List GivenChannel → Bool
all_named [] = true
all_named (c ∷ cs) = name_there c.name && all_named cs

abbrev pub all_sampled : List GivenChannel → Bool
all_sampled [] = true
all_sampled (c ∷ cs) = nat_le c.x 2147483647 && (nat_le c.y 2147483647 && all_sampled cs)

abbrev pub unknown : Option Kind → Bool
unknown (Some k) = false
unknown None = true

-- goes on to what comes next if a test is passed
abbrev pub ask : Bool → ℕ → Option ℕ → Option ℕ
ask ok q more = cond ok more (Some q)

abbrev pub ask_small : Value → Option ℕ
ask_small v = ask (nat_le (length (bytes_of (loaded_form v))) 40960) 5 None

unfoldable pub value_ask : Value → Option ℕ
value_ask (numbers k ns) = ask_small (numbers k ns)
value_ask (compressed c level) = ask_small (compressed c level)
value_ask (tiles w h level rounding) = ask (nat_le w 4294967295 && nat_le h 4294967295) 12 (ask_small (tiles w h level rounding))
value_ask (block t) = ask_small (block t)
value_ask (bounds b) = ask_small (bounds b)
value_ask (time t) = ask (valid t) 13 (ask_small (time t))
value_ask (picture w h b) = ask (nat_le w 4294967295 && (nat_le h 4294967295 && length b == 4 * w * h)) 12 (ask_small (picture w h b))
value_ask (text b) = ask_small (text b)
value_ask (texts ts) = ask (all_there ts) 10 (ask_small (texts ts))
value_ask (hinted h b) = ask_small (hinted h b)
value_ask (channels cs) = ask (all_named cs) 9 (ask (all_sampled cs) 10 (ask_small (channels cs)))
value_ask (custom k b) = ask (named k) 2 (ask (unknown (kind_named k)) 3 (ask_small (custom k b)))

-- ---- the laws

abbrev pub PutAsks : Type 0
PutAsks = (v : Value) → FirstNo (value_questions v) (value_ask v)

-- a value that passes has a loaded form that a header can hold
abbrev pub PutGood : Type 0
PutGood = (v : Value) → Typed v → value_ask v ≡ None → Good (loaded_form v)

-- ---- the loaded form is the value, with three exceptions

abbrev pub some_texts : List Bytes → List (Option Bytes)
some_texts [] = []
some_texts (t ∷ ts) = Some t ∷ some_texts ts

abbrev pub some_channels : List Channel → List GivenChannel
some_channels [] = []
some_channels (c ∷ cs) = record { name = Some c.name; sample = c.sample; linear = c.linear; x = c.x; y = c.y } ∷ some_channels cs

-- a code's case, or another
abbrev pub case_of : {A : Type 0} → A → Option A → A
case_of other (Some a) = a
case_of other None = other

-- the value of a fixed kind
abbrev pub numbers_value : Fixed → List ℕ → Value
numbers_value box2f ns = numbers box2f ns
numbers_value int ns = numbers int ns
numbers_value float ns = numbers float ns
numbers_value double ns = numbers double ns
numbers_value rational ns = numbers rational ns
numbers_value v2i ns = numbers v2i ns
numbers_value v2f ns = numbers v2f ns
numbers_value v3i ns = numbers v3i ns
numbers_value v3f ns = numbers v3f ns
numbers_value m33f ns = numbers m33f ns
numbers_value m44f ns = numbers m44f ns
numbers_value chromaticities ns = numbers chromaticities ns
numbers_value keycode ns = numbers keycode ns
numbers_value compression ns = compressed (case_of Uncompressed (nth compressions (slice_index ns 0))) None
numbers_value envmap ns = numbers envmap ns
numbers_value line_order ns = numbers line_order ns
numbers_value tiledesc ns =
    tiles (slice_index ns 0) (slice_index ns 1) (case_of Singular (nth level_modes (slice_index ns 2 % 16))) (case_of Down (nth rounding_modes (slice_index ns 2 / 16)))

-- a form as a value
unfoldable pub as_value : Form → Value
as_value (values.Numbers k ns) = numbers_value k ns
as_value (values.Bounds b) = bounds b
as_value (values.Time t) = time t
as_value (values.Preview w h b) = picture w h b
as_value (values.Text b) = text b
as_value (values.Texts ts) = texts (some_texts ts)
as_value (values.Hinted h b) = hinted h b
as_value (values.Channels cs) = channels (some_channels cs)
as_value (values.Custom k b) = custom k b

abbrev pub Given : Option ℕ → Type 0
Given None = ⊥
Given (Some bits) = Unit {0}

-- what loads as another value: a float that is not a number (in other bits), a compression with a level, a block type
unfoldable pub Changed : Value → Type 0
Changed (numbers k ns) = kept (fields_of k) ns ≡ ns → ⊥
Changed (compressed c level) = Given level
Changed (tiles w h level rounding) = ⊥
Changed (block t) = Unit {0}
Changed (bounds b) = ⊥
Changed (time t) = ⊥
Changed (picture w h b) = ⊥
Changed (text b) = ⊥
Changed (texts ts) = ⊥
Changed (hinted h b) = ⊥
Changed (channels cs) = ⊥
Changed (custom k b) = ⊥

-- every other value that put takes loads as itself
abbrev pub PutExact : Type 0
PutExact = (v : Value) → Typed v → value_ask v ≡ None → (as_value (loaded_form v) ≡ v) ⊎ Changed v
