-- Each form that a header can hold can be put, and the numbers of the questions.
use Rattle.std.proofs.Common.{◌≡◌, ℕ, zero, suc, ◌+◌, ◌-◌, ◌/◌, ◌%◌, ◌<◌, ◌≤◌, Bool, true, false, cond, ◌&&◌, eqb, leb, ◌⊎◌, List, [], ◌∷◌, ◌++◌, length, get_or, take, drop, replicate, Some, None, Option, Result, sym, refl, ap, subst, inl, inr, arith}
use Rattle.std.proofs.lemmas.Bool.{leb-true, or_cases, and_parts}
use Rattle.layout.specs.Numbers.{Bytes, whole, range}
use Rattle.layout.specs.Questions.{Question, FirstNo, refusal}
use Rattle.layout.specs.Fields.{Field, i32, u32, f32, f64, Held, field_questions}
use Rattle.layout.specs.Enumerations.{Uncompressed, Singular, Down, compressions, level_modes, rounding_modes, nth, compression_code, mode_byte}
use Rattle.layout.specs.Kinds.{Fixed, box2f, int, float, double, rational, v2i, v2f, v3i, v3f, m33f, m44f, chromaticities, keycode, compression, envmap, line_order, tiledesc, Kind, fixed, box2i, timecode, preview, string, stringvector, bytes, chlist, is_mode, fields_of, kind_named}
use Rattle.layout.specs.Channels as channels
use Rattle.layout.specs.Channels.{Channel, ChannelGood, AllGood, channel_fields}
use Rattle.layout.specs.Texts as texts
use Rattle.layout.specs.Values.{Form, Numbers, Bounds, Time, Preview, Text, Texts, Hinted, Channels, Custom, Value, numbers, compressed, tiles, GivenChannel, all_given, channels_given, kept, loaded_form, bytes_of, Shaped, Good}
use Rattle.layout.specs.Values as values
use Rattle.layout.specs.Decode.{questions, questions_by, decode_questions}
use Rattle.layout.specs.Puts.{TypedNumbers, TypedChannels, Typed, AllThere, AllNamed, AllSampled, value_questions, value_ask, some_texts, some_channels, case_of, numbers_value, as_value}
use Rattle.layout.specs.Laws.{PutTakes, PutNumbers, DecodeNumbers}
use Rattle.layout.proofs.Putted.{put_asks_lem}
use Rattle.layout.proofs.Decoded.{decode_asks_lem}

-- ---- a held form as a value loads as itself

held_kept : (fs : List Field) (ns : List ℕ) → Held fs ns → kept fs ns ≡ ns
unfolding Held kept
held_kept [] [] h = refl
held_kept [] (n ∷ ns) h = absurd h
held_kept (f ∷ fs) [] h = absurd h
held_kept (f ∷ fs) (n ∷ ns) h = λ i. h.2 i ∷ held_kept fs ns h.3 i

code_at : (n : ℕ) → n ≤ 11 → compression_code (case_of Uncompressed (nth compressions n)) ≡ n
code_at zero h = refl
code_at (suc zero) h = refl
code_at (suc (suc zero)) h = refl
code_at (suc (suc (suc zero))) h = refl
code_at (suc (suc (suc (suc zero)))) h = refl
code_at (suc (suc (suc (suc (suc zero))))) h = refl
code_at (suc (suc (suc (suc (suc (suc zero)))))) h = refl
code_at (suc (suc (suc (suc (suc (suc (suc zero))))))) h = refl
code_at (suc (suc (suc (suc (suc (suc (suc (suc zero)))))))) h = refl
code_at (suc (suc (suc (suc (suc (suc (suc (suc (suc zero))))))))) h = refl
code_at (suc (suc (suc (suc (suc (suc (suc (suc (suc (suc zero)))))))))) h = refl
code_at (suc (suc (suc (suc (suc (suc (suc (suc (suc (suc (suc zero))))))))))) h = refl
code_at (suc (suc (suc (suc (suc (suc (suc (suc (suc (suc (suc (suc n)))))))))))) h = absurd (omega arith)

compression_loads : (ns : List ℕ) → Held (fields_of compression) ns → loaded_form (numbers_value compression ns) ≡ Numbers compression ns
unfolding Held loaded_form
compression_loads [] h = absurd h
compression_loads (n ∷ []) h = ap (λ (m : ℕ). Numbers compression (m ∷ [])) (code_at n (leb-true n 11 h.1))
compression_loads (n ∷ m ∷ ns) h = absurd h.3

abbrev mode_of : ℕ → ℕ
mode_of m = mode_byte (case_of Singular (nth level_modes (m % 16))) (case_of Down (nth rounding_modes (m / 16)))

low_mode : (m : ℕ) → m ≤ 2 → mode_of m ≡ m
low_mode zero h = refl
low_mode (suc zero) h = refl
low_mode (suc (suc zero)) h = refl
low_mode (suc (suc (suc m))) h = absurd (omega arith)

high_mode : (k : ℕ) → k ≤ 2 → mode_of (16 + k) ≡ 16 + k
high_mode zero h = refl
high_mode (suc zero) h = refl
high_mode (suc (suc zero)) h = refl
high_mode (suc (suc (suc m))) h = absurd (omega arith)

mode_at : (m : ℕ) → is_mode m ≡ true → mode_of m ≡ m
mode_at m e = at (or_cases (leb m 2) (leb 16 m && leb m 18) e)
  where
    at : (leb m 2 ≡ true) ⊎ ((leb 16 m && leb m 18) ≡ true) → mode_of m ≡ m
    at (inl h) = low_mode m (leb-true m 2 h)
    at (inr h) =
        let p = and_parts (leb 16 m) (leb m 18) h in
        let a = leb-true 16 m p.0 in
        let b = leb-true m 18 p.1 in
        let e : 16 + (m - 16) ≡ m = omega arith in
        subst (λ (n : ℕ). mode_of n ≡ n) e (high_mode (m - 16) (omega arith))

tiles_load : (ns : List ℕ) → Held (fields_of tiledesc) ns → loaded_form (numbers_value tiledesc ns) ≡ Numbers tiledesc ns
unfolding Held loaded_form
tiles_load [] h = absurd h
tiles_load (w ∷ []) h = absurd h.3
tiles_load (w ∷ t ∷ []) h = absurd h.3.3
tiles_load (w ∷ t ∷ m ∷ []) h = ap (λ (n : ℕ). Numbers tiledesc (w ∷ t ∷ n ∷ [])) (mode_at m h.3.3.1)
tiles_load (w ∷ t ∷ m ∷ n ∷ ns) h = absurd h.3.3.3

numbers_load : (k : Fixed) (ns : List ℕ) → Held (fields_of k) ns → loaded_form (numbers_value k ns) ≡ Numbers k ns
unfolding loaded_form
numbers_load box2f ns h = ap (Numbers box2f) (held_kept (fields_of box2f) ns h)
numbers_load int ns h = ap (Numbers int) (held_kept (fields_of int) ns h)
numbers_load float ns h = ap (Numbers float) (held_kept (fields_of float) ns h)
numbers_load double ns h = ap (Numbers double) (held_kept (fields_of double) ns h)
numbers_load rational ns h = ap (Numbers rational) (held_kept (fields_of rational) ns h)
numbers_load v2i ns h = ap (Numbers v2i) (held_kept (fields_of v2i) ns h)
numbers_load v2f ns h = ap (Numbers v2f) (held_kept (fields_of v2f) ns h)
numbers_load v3i ns h = ap (Numbers v3i) (held_kept (fields_of v3i) ns h)
numbers_load v3f ns h = ap (Numbers v3f) (held_kept (fields_of v3f) ns h)
numbers_load m33f ns h = ap (Numbers m33f) (held_kept (fields_of m33f) ns h)
numbers_load m44f ns h = ap (Numbers m44f) (held_kept (fields_of m44f) ns h)
numbers_load chromaticities ns h = ap (Numbers chromaticities) (held_kept (fields_of chromaticities) ns h)
numbers_load keycode ns h = ap (Numbers keycode) (held_kept (fields_of keycode) ns h)
numbers_load compression ns h = compression_loads ns h
numbers_load envmap ns h = ap (Numbers envmap) (held_kept (fields_of envmap) ns h)
numbers_load line_order ns h = ap (Numbers line_order) (held_kept (fields_of line_order) ns h)
numbers_load tiledesc ns h = tiles_load ns h

texts_load : (ts : List Bytes) → all_given (some_texts ts) ≡ ts
texts_load [] = refl
texts_load (t ∷ ts) = ap (λ (z : List Bytes). t ∷ z) (texts_load ts)

channels_load : (cs : List Channel) → channels_given (some_channels cs) ≡ cs
channels_load [] = refl
channels_load (c ∷ cs) = ap (λ (z : List Channel). c ∷ z) (channels_load cs)

loads : (f : Form) → Good f → loaded_form (as_value f) ≡ f
unfolding loaded_form as_value Shaped
loads (Numbers k ns) g = numbers_load k ns g.0
loads (Bounds b) g = refl
loads (Time t) g = refl
loads (Preview w h b) g = refl
loads (Text b) g = refl
loads (Texts ts) g = ap Texts (texts_load ts)
loads (Hinted h b) g = refl
loads (Channels cs) g = ap Channels (channels_load cs)
loads (Custom k b) g = refl

-- ---- and passes

all_yes : (qs : List Question) (o : Option ℕ) → FirstNo qs None → FirstNo qs o → o ≡ None
all_yes [] None f g = refl
all_yes [] (Some q) f g = absurd g
all_yes (x ∷ qs) None f g = refl
all_yes (x ∷ qs) (Some q) f (inl h) = absurd (h.0 f.0)
all_yes (x ∷ qs) (Some q) f (inr h) = all_yes qs (Some q) f.1 h.1

some_there : (ts : List Bytes) → AllThere (some_texts ts)
some_there [] = tt
some_there (t ∷ ts) = (tt, some_there ts)

some_named : (cs : List Channel) → AllGood cs → AllNamed (some_channels cs)
unfolding ChannelGood
some_named [] g = tt
some_named (c ∷ cs) g = (g.0.0, some_named cs g.1)

some_sampled : (cs : List Channel) → AllGood cs → AllSampled (some_channels cs)
unfolding ChannelGood Held
some_sampled [] g = tt
some_sampled (c ∷ cs) g =
    (leb-true c.x 2147483647 g.0.1.3.3.3.3.3.1, leb-true c.y 2147483647 g.0.1.3.3.3.3.3.3.1, some_sampled cs g.1)

side : (n : ℕ) → n < range 4 → n ≤ 4294967295
side n h = omega arith

tiles_sides : (ns : List ℕ) → Held (fields_of tiledesc) ns → (get_or ns 0 0 ≤ 4294967295) × (get_or ns 1 0 ≤ 4294967295)
unfolding Held
tiles_sides [] h = absurd h
tiles_sides (w ∷ []) h = absurd h.3
tiles_sides (w ∷ t ∷ ns) h = (side w h.0, side t h.3.0)

numbers_pass : (k : Fixed) (ns : List ℕ) → Held (fields_of k) ns → length (bytes_of (loaded_form (numbers_value k ns))) ≤ 40960 → FirstNo (value_questions (numbers_value k ns)) None
unfolding value_questions Held
numbers_pass box2f ns h s = (s, tt)
numbers_pass int ns h s = (s, tt)
numbers_pass float ns h s = (s, tt)
numbers_pass double ns h s = (s, tt)
numbers_pass rational ns h s = (s, tt)
numbers_pass v2i ns h s = (s, tt)
numbers_pass v2f ns h s = (s, tt)
numbers_pass v3i ns h s = (s, tt)
numbers_pass v3f ns h s = (s, tt)
numbers_pass m33f ns h s = (s, tt)
numbers_pass m44f ns h s = (s, tt)
numbers_pass chromaticities ns h s = (s, tt)
numbers_pass keycode ns h s = (s, tt)
numbers_pass compression ns h s = (s, tt)
numbers_pass envmap ns h s = (s, tt)
numbers_pass line_order ns h s = (s, tt)
numbers_pass tiledesc ns h s = (tiles_sides ns h, (s, tt))

passes : (f : Form) → Good f → length (bytes_of (loaded_form (as_value f))) ≤ 40960 → FirstNo (value_questions (as_value f)) None
unfolding value_questions as_value Shaped Held
passes (Numbers k ns) g s = numbers_pass k ns g.0 s
passes (Bounds b) g s = (s, tt)
passes (Time t) g s = (g.0.1, (s, tt))
passes (Preview w h b) g s = ((side w g.0.0.0, side h g.0.0.3.0, g.0.1), (s, tt))
passes (Text b) g s = (s, tt)
passes (Texts ts) g s = (some_there ts, (s, tt))
passes (Hinted h b) g s = (s, tt)
passes (Channels cs) g s = (some_named cs g.0, (some_sampled cs g.0, (s, tt)))
passes (Custom k b) g s = (g.0.0, (g.0.1, (s, tt)))

-- ---- and is of its type

held_typed : (fs : List Field) (ns : List ℕ) → Held fs ns → TypedNumbers fs ns
unfolding Held TypedNumbers
held_typed [] [] h = tt
held_typed [] (n ∷ ns) h = absurd h
held_typed (f ∷ fs) [] h = absurd h
held_typed (f ∷ fs) (n ∷ ns) h = (h.0, h.1, held_typed fs ns h.3)

numbers_typed : (k : Fixed) (ns : List ℕ) → Held (fields_of k) ns → Typed (numbers_value k ns)
unfolding Typed
numbers_typed box2f ns h = (λ e. let z : ◌≡◌ {A = ℕ} 0 1 = cc in omega arith, λ e. let z : ◌≡◌ {A = ℕ} 0 1 = cc in omega arith, held_typed (fields_of box2f) ns h)
numbers_typed int ns h = (λ e. let z : ◌≡◌ {A = ℕ} 0 1 = cc in omega arith, λ e. let z : ◌≡◌ {A = ℕ} 0 1 = cc in omega arith, held_typed (fields_of int) ns h)
numbers_typed float ns h = (λ e. let z : ◌≡◌ {A = ℕ} 0 1 = cc in omega arith, λ e. let z : ◌≡◌ {A = ℕ} 0 1 = cc in omega arith, held_typed (fields_of float) ns h)
numbers_typed double ns h = (λ e. let z : ◌≡◌ {A = ℕ} 0 1 = cc in omega arith, λ e. let z : ◌≡◌ {A = ℕ} 0 1 = cc in omega arith, held_typed (fields_of double) ns h)
numbers_typed rational ns h = (λ e. let z : ◌≡◌ {A = ℕ} 0 1 = cc in omega arith, λ e. let z : ◌≡◌ {A = ℕ} 0 1 = cc in omega arith, held_typed (fields_of rational) ns h)
numbers_typed v2i ns h = (λ e. let z : ◌≡◌ {A = ℕ} 0 1 = cc in omega arith, λ e. let z : ◌≡◌ {A = ℕ} 0 1 = cc in omega arith, held_typed (fields_of v2i) ns h)
numbers_typed v2f ns h = (λ e. let z : ◌≡◌ {A = ℕ} 0 1 = cc in omega arith, λ e. let z : ◌≡◌ {A = ℕ} 0 1 = cc in omega arith, held_typed (fields_of v2f) ns h)
numbers_typed v3i ns h = (λ e. let z : ◌≡◌ {A = ℕ} 0 1 = cc in omega arith, λ e. let z : ◌≡◌ {A = ℕ} 0 1 = cc in omega arith, held_typed (fields_of v3i) ns h)
numbers_typed v3f ns h = (λ e. let z : ◌≡◌ {A = ℕ} 0 1 = cc in omega arith, λ e. let z : ◌≡◌ {A = ℕ} 0 1 = cc in omega arith, held_typed (fields_of v3f) ns h)
numbers_typed m33f ns h = (λ e. let z : ◌≡◌ {A = ℕ} 0 1 = cc in omega arith, λ e. let z : ◌≡◌ {A = ℕ} 0 1 = cc in omega arith, held_typed (fields_of m33f) ns h)
numbers_typed m44f ns h = (λ e. let z : ◌≡◌ {A = ℕ} 0 1 = cc in omega arith, λ e. let z : ◌≡◌ {A = ℕ} 0 1 = cc in omega arith, held_typed (fields_of m44f) ns h)
numbers_typed chromaticities ns h = (λ e. let z : ◌≡◌ {A = ℕ} 0 1 = cc in omega arith, λ e. let z : ◌≡◌ {A = ℕ} 0 1 = cc in omega arith, held_typed (fields_of chromaticities) ns h)
numbers_typed keycode ns h = (λ e. let z : ◌≡◌ {A = ℕ} 0 1 = cc in omega arith, λ e. let z : ◌≡◌ {A = ℕ} 0 1 = cc in omega arith, held_typed (fields_of keycode) ns h)
numbers_typed compression ns h = tt
numbers_typed envmap ns h = (λ e. let z : ◌≡◌ {A = ℕ} 0 1 = cc in omega arith, λ e. let z : ◌≡◌ {A = ℕ} 0 1 = cc in omega arith, held_typed (fields_of envmap) ns h)
numbers_typed line_order ns h = (λ e. let z : ◌≡◌ {A = ℕ} 0 1 = cc in omega arith, λ e. let z : ◌≡◌ {A = ℕ} 0 1 = cc in omega arith, held_typed (fields_of line_order) ns h)
numbers_typed tiledesc ns h = tt

channels_typed : (cs : List Channel) → AllGood cs → TypedChannels (some_channels cs)
unfolding ChannelGood Held
channels_typed [] g = tt
channels_typed (c ∷ cs) g = (leb-true c.sample 2 g.0.1.1, leb-true c.linear 1 g.0.1.3.1, channels_typed cs g.1)

typed : (f : Form) → Good f → Typed (as_value f)
unfolding Typed as_value Shaped
typed (Numbers k ns) g = numbers_typed k ns g.0
typed (Bounds b) g = g.0
typed (Time t) g = g.0.0
typed (Preview w h b) g = tt
typed (Text b) g = tt
typed (Texts ts) g = tt
typed (Hinted h b) g = tt
typed (Channels cs) g = channels_typed cs g.0
typed (Custom k b) g = tt

pub put_takes : PutTakes
put_takes f g =
    let same = loads f g in
    (typed f g, all_yes (value_questions (as_value f)) (value_ask (as_value f)) (passes f g (subst (λ (z : Form). length (bytes_of z) ≤ 40960) (sym same) g.1)) (put_asks_lem (as_value f)), same)

-- ---- the numbers

abbrev Between : ℕ → ℕ → List Question → Type 0
Between lo hi [] = Unit {0}
Between lo hi (x ∷ qs) = (lo ≤ x.0) × (x.0 ≤ hi) × Between lo hi qs

first_between : (lo hi : ℕ) (qs : List Question) (q : ℕ) → Between lo hi qs → FirstNo qs (Some q) → (lo ≤ q) × (q ≤ hi)
first_between lo hi [] q b f = absurd f
first_between lo hi (x ∷ qs) q b (inl h) = (subst (λ (n : ℕ). lo ≤ n) (sym h.1) b.0, subst (λ (n : ℕ). n ≤ hi) (sym h.1) b.1)
first_between lo hi (x ∷ qs) q b (inr h) = first_between lo hi qs q b.2 h.1

between_both : (lo hi : ℕ) (qs rs : List Question) → Between lo hi qs → Between lo hi rs → Between lo hi (qs ++ rs)
between_both lo hi [] rs b c = c
between_both lo hi (x ∷ qs) rs b c = (b.0, b.1, between_both lo hi qs rs b.2 c)

put_between : (v : Value) → Between 2 13 (value_questions v)
unfolding value_questions
put_between (numbers k ns) = omega arith
put_between (compressed c level) = omega arith
put_between (tiles w h level rounding) = omega arith
put_between (values.block t) = omega arith
put_between (values.bounds b) = omega arith
put_between (values.time t) = omega arith
put_between (values.picture w h b) = omega arith
put_between (values.text b) = omega arith
put_between (values.texts ts) = omega arith
put_between (values.hinted h b) = omega arith
put_between (values.channels cs) = omega arith
put_between (values.custom k b) = omega arith

pub put_numbers : PutNumbers
put_numbers v q e = first_between 2 13 (value_questions v) q (put_between v) (subst (FirstNo (value_questions v)) e (put_asks_lem v))

abbrev Asking : List Field → Type 0
Asking [] = Unit {0}
Asking (f ∷ fs) = (6 ≤ f.question) × (f.question ≤ 13) × Asking fs

fields_between : (fs : List Field) (xs : Bytes) → Asking fs → Between 6 13 (field_questions fs xs)
unfolding field_questions
fields_between [] xs a = tt
fields_between (f ∷ fs) xs a = (omega arith, omega arith, (a.0, a.1, fields_between fs (drop f.width xs) a.2))

asking_all : (n : ℕ) (f : Field) → 6 ≤ f.question → f.question ≤ 13 → Asking (replicate n f)
asking_all zero f a b = tt
asking_all (suc n) f a b = (a, b, asking_all n f a b)

asking : (k : Fixed) → Asking (fields_of k)
asking box2f = asking_all 4 f32 (omega arith) (omega arith)
asking int = asking_all 1 i32 (omega arith) (omega arith)
asking float = asking_all 1 f32 (omega arith) (omega arith)
asking double = asking_all 1 f64 (omega arith) (omega arith)
asking rational = asking_all 2 i32 (omega arith) (omega arith)
asking v2i = asking_all 2 i32 (omega arith) (omega arith)
asking v2f = asking_all 2 f32 (omega arith) (omega arith)
asking v3i = asking_all 3 i32 (omega arith) (omega arith)
asking v3f = asking_all 3 f32 (omega arith) (omega arith)
asking m33f = asking_all 9 f32 (omega arith) (omega arith)
asking m44f = asking_all 16 f32 (omega arith) (omega arith)
asking chromaticities = asking_all 8 f32 (omega arith) (omega arith)
asking keycode = asking_all 7 i32 (omega arith) (omega arith)
asking compression = omega arith
asking envmap = omega arith
asking line_order = omega arith
asking tiledesc = omega arith

channels_between : (k : ℕ) (xs : Bytes) → Between 6 13 (channels.channels_questions k xs)
unfolding channels.channels_questions
channels_between zero xs = omega arith
channels_between (suc k) [] = omega arith
channels_between (suc k) (b ∷ xs) = at (eqb b 0) (channels_between k (channels.behind_channel (b ∷ xs)))
  where
    at : (t : Bool) → Between 6 13 (channels.channels_questions k (channels.behind_channel (b ∷ xs))) →
        Between 6 13 (cond t [] (channels.channel_questions (b ∷ xs) ++ channels.channels_questions k (channels.behind_channel (b ∷ xs))))
    at true h = tt
    at false h =
        between_both 6 13 (channels.channel_questions (b ∷ xs)) (channels.channels_questions k (channels.behind_channel (b ∷ xs)))
        (omega arith, omega arith, (omega arith, omega arith, fields_between channel_fields (channels.behind_name (b ∷ xs)) (omega arith))) h

texts_between : (k size : ℕ) (xs : Bytes) → Between 6 13 (texts.texts_questions k size xs)
unfolding texts.texts_questions
texts_between zero size [] = tt
texts_between (suc k) size [] = tt
texts_between zero size (b ∷ xs) = omega arith
texts_between (suc k) size (b ∷ xs) =
    between_both 6 13 (texts.counted_questions 2147483647 size (b ∷ xs)) (texts.texts_questions k size (drop (whole (take 4 (b ∷ xs))) (drop 4 (b ∷ xs)))) (omega arith)
    (texts_between k size (drop (whole (take 4 (b ∷ xs))) (drop 4 (b ∷ xs))))

known_between : (k : Kind) (xs : Bytes) → Between 6 13 (questions k xs)
unfolding questions
known_between (fixed k) xs = fields_between (fields_of k) xs (asking k)
known_between box2i xs = between_both 6 13 (field_questions (replicate 4 i32) xs) _ (fields_between (replicate 4 i32) xs (omega arith)) (omega arith)
known_between timecode xs = between_both 6 13 (field_questions (u32 ∷ u32 ∷ []) xs) _ (fields_between (u32 ∷ u32 ∷ []) xs (omega arith)) (omega arith)
known_between preview xs = between_both 6 13 (field_questions (u32 ∷ u32 ∷ []) xs) _ (fields_between (u32 ∷ u32 ∷ []) xs (omega arith)) (omega arith)
known_between string xs = tt
known_between stringvector xs = texts_between (length xs) (length xs) xs
known_between bytes xs = omega arith
known_between chlist xs = channels_between (suc (length xs)) xs

pub decode_numbers : DecodeNumbers
decode_numbers n xs q e =
    first_between 6 13 (decode_questions n xs) q (at (kind_named n)) (subst (λ (r : Result Form ℕ). FirstNo (decode_questions n xs) (refusal r)) e (decode_asks_lem n xs))
  where
    at : (o : Option Kind) → Between 6 13 (questions_by o xs)
    at (Some k) = known_between k xs
    at None = tt
