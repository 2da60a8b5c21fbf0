-- What a load makes of a kind and a value's bytes, what the bytes mean by the layout, and the questions in between.
use Rattle.std.specs.Prelude.{◌≡◌, ℕ, suc, ◌*◌, ◌≤◌, Bool, true, List, [], ◌∷◌, ◌++◌, length, drop, Some, None, Ok, Err, Option, Result, slice_index}
use Rattle.layout.specs.Numbers.{Bytes}
use Rattle.layout.specs.Questions.{Answer, next, when_ok, front, asked, part}
use Rattle.layout.specs.Questions.{Question, FirstNo, refusal}
use Rattle.layout.specs.Fields as fields
use Rattle.layout.specs.Fields.{Field, u32, field_questions, numbers_at}
use Rattle.layout.specs.Kinds.{Kind, fixed, box2i, timecode, preview, string, stringvector, bytes, chlist, kind_named, fields_of}
use Rattle.layout.specs.Boxes.{Box, box_good, corners, box_from, make_box}
use Rattle.layout.specs.TimeCodes.{valid, time_fields, time_from}
use Rattle.layout.specs.Channels as channels
use Rattle.layout.specs.Texts as texts
use Rattle.layout.specs.Values.{Form, Numbers, Bounds, Time, Preview, Text, Texts, Hinted, Channels, Custom, kind_of, bytes_of, Good}

-- ---- reading

-- what is made of a value that is read, without the bytes behind it
abbrev pub told : {A B : Type 0} → (A → B) → Answer A → Result B ℕ
told f (Ok p) = Ok (f p.0)
told f (Err q) = Err q

-- the two sides of a preview
abbrev pub sides : List Field
sides = u32 ∷ u32 ∷ []

abbrev pub pixels : List ℕ → ℕ
pixels ns = 4 * slice_index ns 0 * slice_index ns 1

abbrev pub picture : Bytes → Answer Form
picture xs = next (fields.fields sides xs) (λ ns r. next (part (pixels ns) r) (λ b r. Ok (Preview (slice_index ns 0) (slice_index ns 1) b, r)))

abbrev pub hinted : Bytes → Result Form ℕ
hinted xs = texts.go_on (texts.counted 4294967295 (length xs) xs) (λ h r. Ok (Hinted h r))

abbrev pub texts_form : Result (List Bytes) ℕ → Result Form ℕ
texts_form (Ok ts) = Ok (Texts ts)
texts_form (Err q) = Err q

abbrev pub box_form : Result Box ℕ → Result Form ℕ
box_form (Ok b) = Ok (Bounds b)
box_form (Err q) = Err q

unfoldable pub known : Kind → Bytes → Result Form ℕ
known (fixed k) xs = told (Numbers k) (fields.fields (fields_of k) xs)
known box2i xs = box_form (when_ok (front (fields.fields corners xs)) (λ ns. make_box (box_from ns)))
known timecode xs = told (λ ns. Time (time_from ns)) (fields.fields time_fields xs)
known preview xs = front (picture xs)
known string xs = Ok (Text xs)
known stringvector xs = texts_form (texts.texts xs)
known bytes xs = hinted xs
known chlist xs = told Channels (channels.channels xs)

abbrev pub by_kind : Option Kind → Bytes → Bytes → Result Form ℕ
by_kind (Some k) n xs = known k xs
by_kind None n xs = Ok (Custom n xs)

-- a value, as the call read gives it
unfoldable pub read_value : Bytes → Bytes → Result Form ℕ
read_value n xs = by_kind (kind_named n) n xs

-- a load then asks whether a time code is one
abbrev pub time_valid : Form → Bool
time_valid (Numbers k ns) = true
time_valid (Bounds b) = true
time_valid (Time t) = valid t
time_valid (Preview w h b) = true
time_valid (Text b) = true
time_valid (Texts ts) = true
time_valid (Hinted h b) = true
time_valid (Channels cs) = true
time_valid (Custom k b) = true

unfoldable pub decode : Bytes → Bytes → Result Form ℕ
decode n xs = when_ok (read_value n xs) (λ f. asked (time_valid f) 13 f)

-- ---- what the bytes mean by the layout

-- a front means it, and what stands behind is dropped
abbrev pub Begins : (Bytes → Type 0) → Bytes → Type 0
Begins P xs = (bs : Bytes) × (rest : Bytes) × (xs ≡ bs ++ rest) × P bs

unfoldable pub Is : Form → Bytes → Type 0
Is (Numbers k ns) xs = Begins (fields.Numbers (fields_of k) ns) xs
Is (Bounds b) xs = (ns : List ℕ) × Begins (fields.Numbers corners ns) xs × (b ≡ box_from ns) × (box_good b ≡ true)
Is (Time t) xs = (ns : List ℕ) × Begins (fields.Numbers time_fields ns) xs × (t ≡ time_from ns)
Is (Preview w h b) xs =
    (bs : Bytes) × (rest : Bytes) × (xs ≡ bs ++ (b ++ rest)) × fields.Numbers sides (w ∷ h ∷ []) bs × (length b ≡ 4 * w * h)
Is (Text b) xs = b ≡ xs
Is (Texts ts) xs = texts.TextsAre (length xs) ts xs
Is (Hinted h b) xs = (bs : Bytes) × (xs ≡ bs ++ b) × texts.CountedIs 4294967295 (length xs) h bs
Is (Channels cs) xs = Begins (channels.ChannelsAre cs) xs
Is (Custom k b) xs = (b ≡ xs) × (kind_named k ≡ None)

abbrev pub Means : Bytes → Bytes → Form → Type 0
Means n xs f = (n ≡ kind_of f) × Is f xs

-- ---- the questions

unfoldable pub questions : Kind → Bytes → List Question
questions (fixed k) xs = field_questions (fields_of k) xs
questions box2i xs = field_questions corners xs ++ ((11, box_good (box_from (numbers_at corners xs)) ≡ true) ∷ [])
questions timecode xs = field_questions time_fields xs ++ ((13, valid (time_from (numbers_at time_fields xs)) ≡ true) ∷ [])
questions preview xs = field_questions sides xs ++ ((6, pixels (numbers_at sides xs) ≤ length (drop 8 xs)) ∷ [])
questions string xs = []
questions stringvector xs = texts.texts_questions (length xs) (length xs) xs
questions bytes xs = texts.counted_questions 4294967295 (length xs) xs
questions chlist xs = channels.channels_questions (suc (length xs)) xs

abbrev pub questions_by : Option Kind → Bytes → List Question
questions_by (Some k) xs = questions k xs
questions_by None xs = []

abbrev pub decode_questions : Bytes → Bytes → List Question
decode_questions n xs = questions_by (kind_named n) xs

-- ---- the laws

-- what is read is what the bytes mean, and a time code is one
abbrev pub DecodeMeans : Type 0
DecodeMeans =
    (n xs : Bytes) (f : Form) →
    (decode n xs ≡ Ok f → Means n xs f × (time_valid f ≡ true))
    × (Means n xs f → time_valid f ≡ true → decode n xs ≡ Ok f)

-- a refusal names the first question answered no, and there is none where a value is read
abbrev pub DecodeAsks : Type 0
DecodeAsks = (n xs : Bytes) → FirstNo (decode_questions n xs) (refusal (decode n xs))

-- the canonical bytes of a form mean the form, and surplus bytes behind them change nothing where the form has a last field
unfoldable pub Last : Form → Bytes → Type 0
Last (Numbers k ns) rest = Unit {0}
Last (Bounds b) rest = Unit {0}
Last (Time t) rest = Unit {0}
Last (Preview w h b) rest = Unit {0}
Last (Text b) rest = rest ≡ []
Last (Texts ts) rest = rest ≡ []
Last (Hinted h b) rest = rest ≡ []
Last (Channels cs) rest = Unit {0}
Last (Custom k b) rest = rest ≡ []

abbrev pub DecodeBack : Type 0
DecodeBack = (f : Form) (rest : Bytes) → Good f → Last f rest → decode (kind_of f) (bytes_of f ++ rest) ≡ Ok f
