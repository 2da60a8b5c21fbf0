-- The questions that put asks, and what a value that passes them loads as.
use Rattle.std.proofs.Common.{◌≡◌, ℕ, zero, suc, ◌*◌, ◌%◌, ◌<◌, ◌≤◌, Bool, true, false, cond, not, ◌&&◌, eqb, ltb, leb, ◌⊎◌, List, [], ◌∷◌, length, replicate, Some, None, Option, refl, ap, ◌∙◌, subst, inl, inr, arith}
use Rattle.std.proofs.lemmas.Bool.{leb-true, le-leb, eqb-true, eqb-false, eq-eqb, ne_eqb, and_parts, and_from, not-true, not_from_false, both_ways}
use Rattle.std.specs.Str.{bytes_eq}
use Rattle.std.proofs.lemmas.Slice.Eq.{bytes_eq-Decides}
use Rattle.layout.specs.Numbers.{Bytes, range}
use Rattle.layout.specs.Questions.{Question, FirstNo}
use Rattle.layout.specs.Floats.{one_nan}
use Rattle.layout.specs.Fields.{Field, i32, u32, f32, f64, up_to, Held}
use Rattle.layout.specs.Names.{NonZero, Named, non_zero, named}
use Rattle.layout.specs.Records.{RecordsAsk}
use Rattle.layout.specs.Enumerations.{Compression, Uncompressed, Rle, Zip1, Zip16, Piz, Pxr24, B44, B44a, Dwaa, Dwab, Htj2k32, Htj2k256, Envmap, LatitudeLongitude, Cube, LineOrder, Increasing, Decreasing, Unspecified, SampleType, U32, F16, F32, LevelMode, Singular, MipMap, RipMap, RoundingMode, Down, Up, compressions, envmaps, line_orders, sample_types, level_modes, rounding_modes, compression_code, envmap_code, line_order_code, sample_code, level_code, rounding_code, mode_byte, Coded, EnumerationsCoded}
use Rattle.layout.specs.Kinds.{Fixed, box2f, int, float, double, rational, v2i, v2f, v3i, v3f, m33f, m44f, chromaticities, keycode, compression, envmap, line_order, tiledesc, Kind, kind_named, mode, fields_of}
use Rattle.layout.specs.TimeCodes.{valid}
use Rattle.layout.specs.Channels.{ChannelGood, AllGood}
use Rattle.layout.specs.Values.{Value, numbers, compressed, tiles, block, bounds, time, picture, text, texts, hinted, channels, custom, GivenChannel, given, all_given, channels_given, loaded_form, bytes_of, kept, Shaped, Good}
use Rattle.layout.specs.Puts.{TypedNumbers, TypedChannels, Typed, There, AllThere, NameThere, AllNamed, AllSampled, small, value_questions, there, all_there, name_there, all_named, all_sampled, unknown, ask, ask_small, value_ask, PutAsks, PutGood, some_texts, some_channels, case_of, numbers_value, as_value, Changed, PutExact}

-- ---- each test decides its question

ask_first : (P : Type 0) (t : Bool) (q : ℕ) (more : Option ℕ) (qs : List Question) → (t ≡ true → P) → (P → t ≡ true) → FirstNo qs more → FirstNo ((q, P) ∷ qs) (ask t q more)
ask_first P true q None qs to from f = (to refl, f)
ask_first P true q (Some r) qs to from f = inr (to refl, f)
ask_first P false q more qs to from f = inl ((λ p. both_ways false refl (from p)), refl)

non_zero_true : (n : Bytes) → non_zero n ≡ true → NonZero n
non_zero_true [] e = tt
non_zero_true (b ∷ bs) e =
    let p = and_parts (not (eqb b 0)) (non_zero bs) e in
    (eqb-false b 0 (not-true (eqb b 0) p.0), non_zero_true bs p.1)

non_zero_from : (n : Bytes) → NonZero n → non_zero n ≡ true
non_zero_from [] h = refl
non_zero_from (b ∷ bs) h = and_from (not (eqb b 0)) (non_zero bs) (not_from_false (eqb b 0) (ne_eqb b 0 h.0)) (non_zero_from bs h.1)

pub named_true : (n : Bytes) → named n ≡ true → Named n
unfolding named
named_true n e =
    let p = and_parts (leb 1 (length n)) (leb (length n) 255 && non_zero n) e in
    let q = and_parts (leb (length n) 255) (non_zero n) p.1 in
    (leb-true 1 (length n) p.0, leb-true (length n) 255 q.0, non_zero_true n q.1)

pub named_from : (n : Bytes) → Named n → named n ≡ true
unfolding named
named_from n h =
    and_from (leb 1 (length n)) (leb (length n) 255 && non_zero n) (le-leb 1 (length n) h.0)
    (and_from (leb (length n) 255) (non_zero n) (le-leb (length n) 255 h.1) (non_zero_from n h.2))

there_true : (t : Option Bytes) → there t ≡ true → There t
there_true (Some b) e = tt
there_true None e = both_ways false refl e

there_from : (t : Option Bytes) → There t → there t ≡ true
there_from (Some b) h = refl
there_from None h = absurd h

all_there_lem : (ts : List (Option Bytes)) → all_there ts ≡ true → AllThere ts
all_there_lem [] e = tt
all_there_lem (t ∷ ts) e = let p = and_parts (there t) (all_there ts) e in (there_true t p.0, all_there_lem ts p.1)

all_there_from : (ts : List (Option Bytes)) → AllThere ts → all_there ts ≡ true
all_there_from [] h = refl
all_there_from (t ∷ ts) h = and_from (there t) (all_there ts) (there_from t h.0) (all_there_from ts h.1)

name_there_lem : (t : Option Bytes) → name_there t ≡ true → NameThere t
name_there_lem (Some b) e = named_true b e
name_there_lem None e = both_ways false refl e

name_there_from : (t : Option Bytes) → NameThere t → name_there t ≡ true
name_there_from (Some b) h = named_from b h
name_there_from None h = absurd h

all_named_lem : (cs : List GivenChannel) → all_named cs ≡ true → AllNamed cs
all_named_lem [] e = tt
all_named_lem (c ∷ cs) e = let p = and_parts (name_there c.name) (all_named cs) e in (name_there_lem c.name p.0, all_named_lem cs p.1)

all_named_from : (cs : List GivenChannel) → AllNamed cs → all_named cs ≡ true
all_named_from [] h = refl
all_named_from (c ∷ cs) h = and_from (name_there c.name) (all_named cs) (name_there_from c.name h.0) (all_named_from cs h.1)

all_sampled_lem : (cs : List GivenChannel) → all_sampled cs ≡ true → AllSampled cs
all_sampled_lem [] e = tt
all_sampled_lem (c ∷ cs) e =
    let p = and_parts (leb c.x 2147483647) (leb c.y 2147483647 && all_sampled cs) e in
    let q = and_parts (leb c.y 2147483647) (all_sampled cs) p.1 in
    (leb-true c.x 2147483647 p.0, leb-true c.y 2147483647 q.0, all_sampled_lem cs q.1)

all_sampled_from : (cs : List GivenChannel) → AllSampled cs → all_sampled cs ≡ true
all_sampled_from [] h = refl
all_sampled_from (c ∷ cs) h =
    and_from (leb c.x 2147483647) (leb c.y 2147483647 && all_sampled cs) (le-leb c.x 2147483647 h.0)
    (and_from (leb c.y 2147483647) (all_sampled cs) (le-leb c.y 2147483647 h.1) (all_sampled_from cs h.2))

unknown_true : (o : Option Kind) → unknown o ≡ true → o ≡ None
unknown_true None e = refl
unknown_true (Some k) e = absurd (both_ways false refl e)

ask_small_lem : (v : Value) → FirstNo (small v ∷ []) (ask_small v)
ask_small_lem v =
    let n : ℕ = length (bytes_of (loaded_form v)) in
    ask_first (n ≤ 40960) (leb n 40960) 5 None [] (leb-true n 40960) (le-leb n 40960) tt

sides_ask_lem : (w h : ℕ) → (leb w 4294967295 && leb h 4294967295 ≡ true → (w ≤ 4294967295) × (h ≤ 4294967295))
    × ((w ≤ 4294967295) × (h ≤ 4294967295) → leb w 4294967295 && leb h 4294967295 ≡ true)
sides_ask_lem w h = (
  λ e. let p = and_parts (leb w 4294967295) (leb h 4294967295) e in (leb-true w 4294967295 p.0, leb-true h 4294967295 p.1),
  λ p. and_from (leb w 4294967295) (leb h 4294967295) (le-leb w 4294967295 p.0) (le-leb h 4294967295 p.1),
)

picture_ask : (w h n m : ℕ) → (leb w 4294967295 && (leb h 4294967295 && eqb n m) ≡ true → (w ≤ 4294967295) × (h ≤ 4294967295) × (n ≡ m))
    × ((w ≤ 4294967295) × (h ≤ 4294967295) × (n ≡ m) → leb w 4294967295 && (leb h 4294967295 && eqb n m) ≡ true)
picture_ask w h n m = (
  λ e. let p = and_parts (leb w 4294967295) (leb h 4294967295 && eqb n m) e in
      let q = and_parts (leb h 4294967295) (eqb n m) p.1 in (leb-true w 4294967295 p.0, leb-true h 4294967295 q.0, eqb-true n m q.1),
  λ p. and_from (leb w 4294967295) (leb h 4294967295 && eqb n m) (le-leb w 4294967295 p.0)
      (and_from (leb h 4294967295) (eqb n m) (le-leb h 4294967295 p.1) (eq-eqb n m p.2)),
)

pub put_asks_lem : PutAsks
unfolding value_questions value_ask
put_asks_lem (numbers k ns) = ask_small_lem (numbers k ns)
put_asks_lem (compressed c level) = ask_small_lem (compressed c level)
put_asks_lem (tiles w h level rounding) = ask_first _ (leb w 4294967295 && leb h 4294967295) 12 (ask_small (tiles w h level rounding)) (small (tiles w h level rounding) ∷ []) (sides_ask_lem w h).0 (sides_ask_lem w h).1 (ask_small_lem (tiles w h level rounding))
put_asks_lem (block t) = ask_small_lem (block t)
put_asks_lem (bounds b) = ask_small_lem (bounds b)
put_asks_lem (time t) = ask_first _ (valid t) 13 (ask_small (time t)) (small (time t) ∷ []) (λ e. e) (λ e. e) (ask_small_lem (time t))
put_asks_lem (picture w h b) =
    ask_first _ (leb w 4294967295 && (leb h 4294967295 && eqb (length b) (4 * w * h))) 12 (ask_small (picture w h b)) (small (picture w h b) ∷ [])
    (picture_ask w h (length b) (4 * w * h)).0 (picture_ask w h (length b) (4 * w * h)).1 (ask_small_lem (picture w h b))
put_asks_lem (text b) = ask_small_lem (text b)
put_asks_lem (texts ts) = ask_first _ (all_there ts) 10 (ask_small (texts ts)) (small (texts ts) ∷ []) (all_there_lem ts) (all_there_from ts) (ask_small_lem (texts ts))
put_asks_lem (hinted h b) = ask_small_lem (hinted h b)
put_asks_lem (channels cs) =
    ask_first _ (all_named cs) 9 (ask (all_sampled cs) 10 (ask_small (channels cs))) ((10, AllSampled cs) ∷ small (channels cs) ∷ []) (all_named_lem cs) (all_named_from cs)
    (ask_first _ (all_sampled cs) 10 (ask_small (channels cs)) (small (channels cs) ∷ []) (all_sampled_lem cs) (all_sampled_from cs) (ask_small_lem (channels cs)))
put_asks_lem (custom k b) =
    ask_first _ (named k) 2 (ask (unknown (kind_named k)) 3 (ask_small (custom k b))) ((3, kind_named k ≡ None) ∷ small (custom k b) ∷ []) (named_true k) (named_from k)
    (ask_first _ (unknown (kind_named k)) 3 (ask_small (custom k b)) (small (custom k b) ∷ []) (unknown_true (kind_named k)) (λ e. ap unknown e) (ask_small_lem (custom k b)))

-- ---- what a field keeps can be held

pub record Fair (f : Field) : Type 0 where
  pub fits : (n : ℕ) → n < range f.width → f.keeps n < range f.width
  pub admitted : (n : ℕ) → f.admits n ≡ true → f.admits (f.keeps n) ≡ true
  pub same : (n : ℕ) → f.keeps (f.keeps n) ≡ f.keeps n

abbrev pub AllFair : List Field → Type 0
AllFair [] = Unit {0}
AllFair (f ∷ fs) = Fair f × AllFair fs

nan_fits : (t : Bool) (nan n r : ℕ) → nan < r → n < r → cond t nan n < r
nan_fits true nan n r h g = h
nan_fits false nan n r h g = g

nan_once : (s i nan n : ℕ) → one_nan s i nan nan ≡ nan → one_nan s i nan (one_nan s i nan n) ≡ one_nan s i nan n
nan_once s i nan n e = at (ltb i (n % s)) refl
  where
    at : (t : Bool) → ltb i (n % s) ≡ t → one_nan s i nan (cond t nan n) ≡ cond t nan n
    at true h = e
    at false h = ap (λ (t : Bool). cond t nan n) h

pub fair_i32 : Fair i32
fair_i32 = record { fits = λ n h. h; admitted = λ n e. e; same = λ n. refl }

fair_f32 : Fair f32
fair_f32 = record { fits = λ n h. nan_fits (ltb 0x7F800000 (n % 0x80000000)) 0x7FC00000 n 4294967296 (omega arith) h; admitted = λ n e. refl; same = λ n. nan_once 0x80000000 0x7F800000 0x7FC00000 n refl }

fair_f64 : Fair f64
fair_f64 = record { fits = λ n h. nan_fits (ltb 0x7FF0000000000000 (n % 0x8000000000000000)) 0x7FF8000000000000 n 18446744073709551616 (omega arith) h; admitted = λ n e. refl; same = λ n. nan_once 0x8000000000000000 0x7FF0000000000000 0x7FF8000000000000 n refl }

pub fair_up_to : (w q m : ℕ) → Fair (up_to w q m)
fair_up_to w q m = record { fits = λ n h. h; admitted = λ n e. e; same = λ n. refl }

pub fair_mode : Fair mode
fair_mode = record { fits = λ n h. h; admitted = λ n e. e; same = λ n. refl }

pub fair_all : (n : ℕ) (f : Field) → Fair f → AllFair (replicate n f)
fair_all zero f h = tt
fair_all (suc n) f h = (h, fair_all n f h)

pub fair : (k : Fixed) → AllFair (fields_of k)
fair box2f = fair_all 4 f32 fair_f32
fair int = fair_all 1 i32 fair_i32
fair float = fair_all 1 f32 fair_f32
fair double = fair_all 1 f64 fair_f64
fair rational = fair_all 2 i32 fair_i32
fair v2i = fair_all 2 i32 fair_i32
fair v2f = fair_all 2 f32 fair_f32
fair v3i = fair_all 3 i32 fair_i32
fair v3f = fair_all 3 f32 fair_f32
fair m33f = fair_all 9 f32 fair_f32
fair m44f = fair_all 16 f32 fair_f32
fair chromaticities = fair_all 8 f32 fair_f32
fair keycode = fair_all 7 i32 fair_i32
fair compression = (fair_up_to 1 8 11, tt)
fair envmap = (fair_up_to 1 7 1, tt)
fair line_order = (fair_up_to 1 7 2, tt)
fair tiledesc = (fair_i32, (fair_i32, (fair_mode, tt)))

kept_held : (fs : List Field) (ns : List ℕ) → AllFair fs → TypedNumbers fs ns → Held fs (kept fs ns)
unfolding TypedNumbers Held kept
kept_held [] [] a t = tt
kept_held [] (n ∷ ns) a t = absurd t
kept_held (f ∷ fs) [] a t = absurd t
kept_held (f ∷ fs) (n ∷ ns) a t = (a.0.fits n t.0, a.0.admitted n t.1, a.0.same n, kept_held fs ns a.1 t.2)

-- ---- a value that passes

codes_small : (c : Compression) → compression_code c ≤ 11
codes_small Uncompressed = omega arith
codes_small Rle = omega arith
codes_small Zip1 = omega arith
codes_small Zip16 = omega arith
codes_small Piz = omega arith
codes_small Pxr24 = omega arith
codes_small B44 = omega arith
codes_small B44a = omega arith
codes_small Dwaa = omega arith
codes_small Dwab = omega arith
codes_small Htj2k32 = omega arith
codes_small Htj2k256 = omega arith

mode_held : (l : LevelMode) (r : RoundingMode) → Held (mode ∷ []) (mode_byte l r ∷ [])
unfolding Held
mode_held Singular Down = (omega arith, refl, refl, tt)
mode_held Singular Up = (omega arith, refl, refl, tt)
mode_held MipMap Down = (omega arith, refl, refl, tt)
mode_held MipMap Up = (omega arith, refl, refl, tt)
mode_held RipMap Down = (omega arith, refl, refl, tt)
mode_held RipMap Up = (omega arith, refl, refl, tt)

side_held : (n : ℕ) → n ≤ 4294967295 → n < range 4
side_held n h = omega arith

channels_good : (cs : List GivenChannel) → TypedChannels cs → AllNamed cs → AllSampled cs → AllGood (channels_given cs)
unfolding ChannelGood Held
channels_good [] t n s = tt
channels_good (c ∷ cs) t n s = (
  (
    name_good c.name n.0,
    (
      omega arith,
      le-leb c.sample 2 t.0,
      refl,
      (
        omega arith,
        le-leb c.linear 1 t.1,
        refl,
        (
          omega arith,
          refl,
          refl,
          (
            omega arith,
            refl,
            refl,
            (
              omega arith,
              refl,
              refl,
              (omega arith, le-leb c.x 2147483647 s.0, refl, (omega arith, le-leb c.y 2147483647 s.1, refl, tt)),
            ),
          ),
        ),
      ),
    ),
  ),
  channels_good cs t.2 n.1 s.2,
)
  where
    name_good : (o : Option Bytes) → NameThere o → Named (given o)
    name_good (Some b) h = h
    name_good None h = absurd h

code_held : (c : Compression) → Held (up_to 1 8 11 ∷ []) (compression_code c ∷ [])
unfolding Held
code_held c = let h = codes_small c in (omega arith, le-leb (compression_code c) 11 h, refl, tt)

sides_held : (w h : ℕ) → w ≤ 4294967295 → h ≤ 4294967295 → Held (u32 ∷ u32 ∷ []) (w ∷ h ∷ [])
unfolding Held
sides_held w h p q = (side_held w p, refl, refl, (side_held h q, refl, refl, tt))

tiles_held : (w h : ℕ) (l : LevelMode) (r : RoundingMode) → (w ≤ 4294967295) × (h ≤ 4294967295) → Held (fields_of tiledesc) (w ∷ h ∷ mode_byte l r ∷ [])
unfolding Held
tiles_held w h l r p = (side_held w p.0, refl, refl, (side_held h p.1, refl, refl, mode_held l r))

pub put_good : PutGood
unfolding value_questions Typed loaded_form Shaped
put_good v y e = at v y (subst (FirstNo (value_questions v)) e (put_asks_lem v))
  where
    at : (v : Value) → Typed v → FirstNo (value_questions v) None → Good (loaded_form v)
    at (numbers k ns) y f = (kept_held (fields_of k) ns (fair k) y.2, f.0)
    at (compressed c level) y f = (code_held c, f.0)
    at (tiles w h level rounding) y f = (tiles_held w h level rounding f.0, f.1.0)
    at (block t) y f = (tt, f.0)
    at (bounds b) y f = (y, f.0)
    at (time t) y f = ((y, f.0), f.1.0)
    at (picture w h b) y f = ((sides_held w h f.0.0 f.0.1, f.0.2), f.1.0)
    at (text b) y f = (tt, f.0)
    at (texts ts) y f = (tt, f.1.0)
    at (hinted h b) y f = (tt, f.0)
    at (channels cs) y f = (channels_good cs y f.0 f.1.0, f.1.1.0)
    at (custom k b) y f = ((f.0, f.1.0), f.1.1.0)

-- ---- what loads as itself

compression_coded : Coded Compression compressions compression_code
compression_coded Uncompressed = refl
compression_coded Rle = refl
compression_coded Zip1 = refl
compression_coded Zip16 = refl
compression_coded Piz = refl
compression_coded Pxr24 = refl
compression_coded B44 = refl
compression_coded B44a = refl
compression_coded Dwaa = refl
compression_coded Dwab = refl
compression_coded Htj2k32 = refl
compression_coded Htj2k256 = refl

envmap_coded : Coded Envmap envmaps envmap_code
envmap_coded LatitudeLongitude = refl
envmap_coded Cube = refl

line_coded : Coded LineOrder line_orders line_order_code
line_coded Increasing = refl
line_coded Decreasing = refl
line_coded Unspecified = refl

sample_coded : Coded SampleType sample_types sample_code
sample_coded U32 = refl
sample_coded F16 = refl
sample_coded F32 = refl

level_coded : Coded LevelMode level_modes level_code
level_coded Singular = refl
level_coded MipMap = refl
level_coded RipMap = refl

rounding_coded : Coded RoundingMode rounding_modes rounding_code
rounding_coded Down = refl
rounding_coded Up = refl

pub coded : EnumerationsCoded
coded = record {
  compression = compression_coded;
  envmap = envmap_coded;
  line_order = line_coded;
  sample = sample_coded;
  level = level_coded;
  rounding = rounding_coded;
}

given_texts : (ts : List (Option Bytes)) → AllThere ts → some_texts (all_given ts) ≡ ts
given_texts [] h = refl
given_texts (Some t ∷ ts) h = ap (λ (z : List (Option Bytes)). Some t ∷ z) (given_texts ts h.1)
given_texts (None ∷ ts) h = absurd h.0

given_channels : (cs : List GivenChannel) → AllNamed cs → some_channels (channels_given cs) ≡ cs
given_channels [] h = refl
given_channels (c ∷ cs) h =
    λ i. record { name = whole_name c.name h.0 i; sample = c.sample; linear = c.linear; x = c.x; y = c.y } ∷ given_channels cs h.1 i
  where
    whole_name : (o : Option Bytes) → NameThere o → Some (given o) ≡ o
    whole_name (Some b) h = refl
    whole_name None h = absurd h

tiles_same : (w h : ℕ) (l : LevelMode) (r : RoundingMode) → numbers_value tiledesc (w ∷ h ∷ mode_byte l r ∷ []) ≡ tiles w h l r
tiles_same w h Singular Down = refl
tiles_same w h Singular Up = refl
tiles_same w h MipMap Down = refl
tiles_same w h MipMap Up = refl
tiles_same w h RipMap Down = refl
tiles_same w h RipMap Up = refl

numbers_same : (k : Fixed) (ns : List ℕ) → (k ≡ compression → ⊥) → (k ≡ tiledesc → ⊥) → numbers_value k ns ≡ numbers k ns
numbers_same box2f ns p q = refl
numbers_same int ns p q = refl
numbers_same float ns p q = refl
numbers_same double ns p q = refl
numbers_same rational ns p q = refl
numbers_same v2i ns p q = refl
numbers_same v2f ns p q = refl
numbers_same v3i ns p q = refl
numbers_same v3f ns p q = refl
numbers_same m33f ns p q = refl
numbers_same m44f ns p q = refl
numbers_same chromaticities ns p q = refl
numbers_same keycode ns p q = refl
numbers_same compression ns p q = absurd (p refl)
numbers_same envmap ns p q = refl
numbers_same line_order ns p q = refl
numbers_same tiledesc ns p q = absurd (q refl)

same_numbers : (ns ms : List ℕ) → (ns ≡ ms) ⊎ (ns ≡ ms → ⊥)
same_numbers ns ms = at (bytes_eq ns ms) refl
  where
    at : (t : Bool) → bytes_eq ns ms ≡ t → (ns ≡ ms) ⊎ (ns ≡ ms → ⊥)
    at true e = inl ((bytes_eq-Decides ns ms).0 e)
    at false e = inr (λ p. both_ways (bytes_eq ns ms) e ((bytes_eq-Decides ns ms).1 p))

pub put_exact : PutExact
unfolding value_questions Typed loaded_form as_value Changed
put_exact v y e = at v y (subst (FirstNo (value_questions v)) e (put_asks_lem v))
  where
    at : (v : Value) → Typed v → FirstNo (value_questions v) None → (as_value (loaded_form v) ≡ v) ⊎ Changed v
    at (numbers k ns) y f = same (same_numbers (kept (fields_of k) ns) ns)
      where
        same : (kept (fields_of k) ns ≡ ns) ⊎ (kept (fields_of k) ns ≡ ns → ⊥) → (as_value (loaded_form (numbers k ns)) ≡ numbers k ns) ⊎ Changed (numbers k ns)
        same (inl p) = inl (numbers_same k (kept (fields_of k) ns) y.0 y.1 ∙ ap (numbers k) p)
        same (inr p) = inr p
    at (compressed c None) y f = inl (ap (λ (o : Option Compression). compressed (case_of Uncompressed o) None) (compression_coded c))
    at (compressed c (Some l)) y f = inr tt
    at (tiles w h level rounding) y f = inl (tiles_same w h level rounding)
    at (block t) y f = inr tt
    at (bounds b) y f = inl refl
    at (time t) y f = inl refl
    at (picture w h b) y f = inl refl
    at (text b) y f = inl refl
    at (texts ts) y f = inl (ap texts (given_texts ts f.0))
    at (hinted h b) y f = inl refl
    at (channels cs) y f = inl (ap channels (given_channels cs f.0))
    at (custom k b) y f = inl refl

pub records_ask : RecordsAsk
records_ask name v = ask_first (Named name) (named name) 1 (value_ask v) (value_questions v) (named_true name) (named_from name) (put_asks_lem v)
