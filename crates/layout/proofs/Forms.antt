-- What a load makes is a form that a header can hold, and each such form can be put.
use Rattle.std.proofs.Common.{◌≡◌, ℕ, ◌+◌, ◌<◌, ◌≤◌, true, List, [], ◌∷◌, ◌++◌, length, sym, refl, ap, ◌∙◌, subst, arith, lit≤, length-append}
use Rattle.layout.specs.Numbers.{Bytes, EachByte, whole, range, low_first}
use Rattle.layout.specs.Names.{Named}
use Rattle.layout.specs.Fields as fields
use Rattle.layout.specs.Fields.{Field, u32, i32, reserved, up_to, Held, field_bytes}
use Rattle.layout.specs.Kinds.{box2f, int, float, double, rational, v2i, v2f, v3i, v3f, m33f, m44f, chromaticities, keycode, compression, envmap, line_order, tiledesc, Kind, fixed, box2i, timecode, preview, string, stringvector, bytes, chlist, name_of, fields_of}
use Rattle.layout.specs.Boxes.{corners, corner_numbers}
use Rattle.layout.specs.TimeCodes.{time_fields, time_numbers, Sized}
use Rattle.layout.specs.Channels.{Channel, channel_fields, channel_numbers, channel_bytes, channels_bytes, ChannelIs, ChannelsAre, ChannelGood, AllGood}
use Rattle.layout.specs.Texts as texts
use Rattle.layout.specs.Values.{Form, Numbers, Bounds, Time, Preview, Text, Texts, Hinted, Channels, Custom, kind_of, bytes_of, Shaped, Good}
use Rattle.layout.specs.Decode.{sides, Is, Means, time_valid}
use Rattle.layout.specs.Laws.{DecodeGood, GoodKind}
use Rattle.layout.proofs.Numbered.{length-low_first, whole_fits, bytes_front, bytes_behind}
use Rattle.layout.proofs.Putted.{Fair, AllFair, fair, fair_all, fair_i32, fair_up_to}
use Rattle.layout.proofs.Timed.{time_sized, time_held}
use Rattle.layout.proofs.Boxed.{box_held}
use Rattle.layout.proofs.Decoded.{decode_means_lem}

each_split : (zs xs ys : Bytes) → zs ≡ xs ++ ys → EachByte zs → EachByte xs × EachByte ys
each_split zs xs ys e h = let k : EachByte (xs ++ ys) = subst EachByte e h in (bytes_front xs ys k, bytes_behind xs ys k)

split_length : (zs xs ys : Bytes) → zs ≡ xs ++ ys → length zs ≡ length xs + length ys
split_length zs xs ys e = ap length e ∙ length-append xs ys

numbers_held : (fs : List Field) (ns : List ℕ) (bs : Bytes) → AllFair fs → EachByte bs → fields.Numbers fs ns bs → Held fs ns
unfolding fields.Numbers Held
numbers_held [] [] bs a h is = tt
numbers_held [] (n ∷ ns) bs a h is = absurd is
numbers_held (f ∷ fs) [] bs a h is = absurd is
numbers_held (f ∷ fs) (n ∷ ns) bs a h (b, rest, e, long, ok, it, is) =
    let p = each_split bs b rest e h in
    let small : whole b < range f.width = subst (λ (w : ℕ). whole b < range w) long (whole_fits b p.0) in (
      subst (λ (m : ℕ). m < range f.width) (sym it) (a.0.fits (whole b) small),
      subst (λ (m : ℕ). f.admits m ≡ true) (sym it) (a.0.admitted (whole b) ok),
      ap f.keeps it ∙ a.0.same (whole b) ∙ sym it,
      numbers_held fs ns rest a.1 p.1 is,
    )

numbers_length : (fs : List Field) (ns : List ℕ) (bs : Bytes) → fields.Numbers fs ns bs → length (field_bytes fs ns) ≡ length bs
unfolding fields.Numbers
numbers_length [] [] bs is = sym (ap length is)
numbers_length [] (n ∷ ns) bs is = absurd is
numbers_length (f ∷ fs) [] bs is = absurd is
numbers_length (f ∷ fs) (n ∷ ns) bs (b, rest, e, long, ok, it, is) =
    let l = split_length bs b rest e in
    let m = length-append (low_first f.width n) (field_bytes fs ns) in
    let k = length-low_first f.width n in
    let ih = numbers_length fs ns rest is in
    omega arith

-- the numbers of a value that has been read have as many bytes as any other of its fields
held_length : (fs : List Field) (ns ms : List ℕ) → Held fs ns → (bs : Bytes) → fields.Numbers fs ms bs → length (field_bytes fs ns) ≡ length bs
unfolding fields.Numbers Held
held_length [] [] [] h bs is = sym (ap length is)
held_length [] [] (m ∷ ms) h bs is = absurd is
held_length [] (n ∷ ns) ms h bs is = absurd h
held_length (f ∷ fs) [] ms h bs is = absurd h
held_length (f ∷ fs) (n ∷ ns) [] h bs is = absurd is
held_length (f ∷ fs) (n ∷ ns) (m ∷ ms) h bs (b, rest, e, long, ok, it, is) =
    let l = split_length bs b rest e in
    let m = length-append (low_first f.width n) (field_bytes fs ns) in
    let k = length-low_first f.width n in
    let ih = held_length fs ns ms h.3 rest is in
    omega arith

-- ---- channels and texts

fair_channel : AllFair channel_fields
fair_channel =
    let r : Fair reserved = record { fits = λ n h. omega arith; admitted = λ n e. refl; same = λ n. refl } in
    (fair_up_to 4 7 2, (fair_up_to 1 7 1, (r, (r, (r, (fair_up_to 4 10 2147483647, (fair_up_to 4 10 2147483647, tt)))))))

channel_good : (c : Channel) (bs : Bytes) → EachByte bs → ChannelIs c bs → ChannelGood c × (length (channel_bytes c) ≡ length bs)
unfolding ChannelIs ChannelGood channel_bytes
channel_good c bs h (cs, e, named, is) =
    let p = each_split bs (c.name ++ (0 ∷ [])) cs e h in
    let l = split_length bs (c.name ++ (0 ∷ [])) cs e in
    let m = length-append (c.name ++ (0 ∷ [])) (field_bytes channel_fields (channel_numbers c)) in
    let k = numbers_length channel_fields (channel_numbers c) cs is in
    ((named, numbers_held channel_fields (channel_numbers c) cs fair_channel p.1 is), omega arith)

channels_good : (cs : List Channel) (bs : Bytes) → EachByte bs → ChannelsAre cs bs → AllGood cs × (length (channels_bytes cs) ≡ length bs)
unfolding ChannelsAre channels_bytes
channels_good [] bs h e = (tt, sym (ap length e))
channels_good (c ∷ cs) bs h (b, rest, e, is, are) =
    let p = each_split bs b rest e h in
    let l = split_length bs b rest e in
    let m = length-append (channel_bytes c) (channels_bytes cs) in
    let one = channel_good c b p.0 is in
    let more = channels_good cs rest p.1 are in
    ((one.0, more.0), omega (arith, one.1, more.1))

counted_length : (most size : ℕ) (t bs : Bytes) → texts.CountedIs most size t bs → length (texts.counted_bytes t) ≡ length bs
unfolding texts.CountedIs
counted_length most size t bs (b, e, four, n, m, z) =
    let l = split_length bs b t e in
    let k = length-append (low_first 4 (length t)) t in
    let j = length-low_first 4 (length t) in
    omega arith

texts_length : (size : ℕ) (ts : List Bytes) (xs : Bytes) → texts.TextsAre size ts xs → length (texts.texts_bytes ts) ≡ length xs
unfolding texts.TextsAre texts.texts_bytes
texts_length size [] xs e = sym (ap length e)
texts_length size (t ∷ ts) xs (b, rest, e, is, are) =
    let l = split_length xs b rest e in
    let m = length-append (texts.counted_bytes t) (texts.texts_bytes ts) in
    let one = counted_length 2147483647 size t b is in
    let more = texts_length size ts rest are in
    omega arith

-- ---- forms

form_good : (n xs : Bytes) (f : Form) → Named n → length xs ≤ 40960 → EachByte xs → Means n xs f → time_valid f ≡ true → Good f
unfolding kind_of Is Shaped bytes_of
form_good n xs (Numbers k ns) named small h (e, (bs, rest, e', is)) ok =
    let p = each_split xs bs rest e' h in
    let l = split_length xs bs rest e' in
    let m = numbers_length (fields_of k) ns bs is in
    (numbers_held (fields_of k) ns bs (fair k) p.0 is, omega arith)
form_good n xs (Bounds b) named small h (e, (ns, (bs, rest, e', is), made, good)) ok =
    let l = split_length xs bs rest e' in
    let m = held_length corners (corner_numbers b) ns (box_held b good) bs is in
    (good, omega arith)
form_good n xs (Time t) named small h (e, (ns, (bs, rest, e', is), made)) ok =
    let l = split_length xs bs rest e' in
    let z : Sized t = subst Sized (sym made) (time_sized ns) in
    let m = held_length time_fields (time_numbers t) ns (time_held t z ok) bs is in
    ((z, ok), omega arith)
form_good n xs (Preview w h' b) named small h (e, (bs, rest, e', is, long)) ok =
    let p = each_split xs bs (b ++ rest) e' h in
    let l = split_length xs bs (b ++ rest) e' in
    let l' = length-append b rest in
    let m = numbers_length sides (w ∷ h' ∷ []) bs is in
    let k = length-append (field_bytes sides (w ∷ h' ∷ [])) b in
    ((numbers_held sides (w ∷ h' ∷ []) bs (fair_all 2 u32 fair_i32) p.0 is, long), omega arith)
form_good n xs (Text b) named small h (e, same) ok = (tt, subst (λ (z : Bytes). length z ≤ 40960) (sym same) small)
form_good n xs (Texts ts) named small h (e, are) ok = let l = texts_length (length xs) ts xs are in (tt, omega arith)
form_good n xs (Hinted t b) named small h (e, (bs, e', is)) ok =
    let l = split_length xs bs b e' in
    let m = counted_length 4294967295 (length xs) t bs is in
    let k = length-append (texts.counted_bytes t) b in
    (tt, omega arith)
form_good n xs (Channels cs) named small h (e, (bs, rest, e', are)) ok =
    let p = each_split xs bs rest e' h in
    let l = split_length xs bs rest e' in
    let g = channels_good cs bs p.0 are in
    (g.0, omega (arith, g.1))
form_good n xs (Custom k b) named small h (e, (same, none)) ok =
    ((subst Named e named, none), subst (λ (z : Bytes). length z ≤ 40960) (sym same) small)

pub decode_good : DecodeGood
decode_good n xs f named small h e = let p = (decode_means_lem n xs f).0 e in form_good n xs f named small h p.0 p.1

-- ---- names of kinds

kind_named_lem : (k : Kind) → Named (name_of k)
kind_named_lem (fixed box2f) = (lit≤ tt, lit≤ tt, omega arith)
kind_named_lem (fixed int) = (lit≤ tt, lit≤ tt, omega arith)
kind_named_lem (fixed float) = (lit≤ tt, lit≤ tt, omega arith)
kind_named_lem (fixed double) = (lit≤ tt, lit≤ tt, omega arith)
kind_named_lem (fixed rational) = (lit≤ tt, lit≤ tt, omega arith)
kind_named_lem (fixed v2i) = (lit≤ tt, lit≤ tt, omega arith)
kind_named_lem (fixed v2f) = (lit≤ tt, lit≤ tt, omega arith)
kind_named_lem (fixed v3i) = (lit≤ tt, lit≤ tt, omega arith)
kind_named_lem (fixed v3f) = (lit≤ tt, lit≤ tt, omega arith)
kind_named_lem (fixed m33f) = (lit≤ tt, lit≤ tt, omega arith)
kind_named_lem (fixed m44f) = (lit≤ tt, lit≤ tt, omega arith)
kind_named_lem (fixed chromaticities) = (lit≤ tt, lit≤ tt, omega arith)
kind_named_lem (fixed keycode) = (lit≤ tt, lit≤ tt, omega arith)
kind_named_lem (fixed compression) = (lit≤ tt, lit≤ tt, omega arith)
kind_named_lem (fixed envmap) = (lit≤ tt, lit≤ tt, omega arith)
kind_named_lem (fixed line_order) = (lit≤ tt, lit≤ tt, omega arith)
kind_named_lem (fixed tiledesc) = (lit≤ tt, lit≤ tt, omega arith)
kind_named_lem box2i = (lit≤ tt, lit≤ tt, omega arith)
kind_named_lem timecode = (lit≤ tt, lit≤ tt, omega arith)
kind_named_lem preview = (lit≤ tt, lit≤ tt, omega arith)
kind_named_lem string = (lit≤ tt, lit≤ tt, omega arith)
kind_named_lem stringvector = (lit≤ tt, lit≤ tt, omega arith)
kind_named_lem bytes = (lit≤ tt, lit≤ tt, omega arith)
kind_named_lem chlist = (lit≤ tt, lit≤ tt, omega arith)

pub good_kind : GoodKind
unfolding kind_of Shaped
good_kind (Numbers k ns) g = kind_named_lem (fixed k)
good_kind (Bounds b) g = kind_named_lem box2i
good_kind (Time t) g = kind_named_lem timecode
good_kind (Preview w h b) g = kind_named_lem preview
good_kind (Text b) g = kind_named_lem string
good_kind (Texts ts) g = kind_named_lem stringvector
good_kind (Hinted h b) g = kind_named_lem bytes
good_kind (Channels cs) g = kind_named_lem chlist
good_kind (Custom k b) g = g.0.0
