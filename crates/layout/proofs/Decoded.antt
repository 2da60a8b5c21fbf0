-- What a load makes of a kind and bytes: what they mean, or the first question answered no.
use Rattle.std.proofs.Common.{◌≡◌, ℕ, suc, ◌*◌, ◌<◌, ◌≤◌, Bool, true, false, List, [], ◌∷◌, ◌++◌, length, get_or, take, drop, Some, None, Ok, Err, Option, Result, sym, refl, ap, ◌∙◌, subst, inl, append_assoc, append-nil, arith, length-append}
use Rattle.std.proofs.lemmas.Bool.{both_ways}
use Rattle.layout.specs.Numbers.{Bytes, whole, range, low_first}
use Rattle.layout.specs.Questions.{Answer, next, when_ok, front, asked, part}
use Rattle.layout.specs.Questions.{Question, FirstNo, refusal}
use Rattle.layout.specs.Fields as fields
use Rattle.layout.specs.Fields.{Field, u32, Held, field_bytes, field_questions, numbers_at, size}
use Rattle.layout.specs.Kinds.{Fixed, Kind, fixed, box2i, timecode, preview, string, stringvector, bytes, chlist, name_of, kind_named, fields_of}
use Rattle.layout.specs.Boxes.{Box, box_good, corners, box_from, corner_numbers, make_box}
use Rattle.layout.specs.TimeCodes.{TimeCode, valid, time_fields, time_from, time_numbers}
use Rattle.layout.specs.Channels as channels
use Rattle.layout.specs.Channels.{Channel}
use Rattle.layout.specs.Texts as texts
use Rattle.layout.specs.Values.{Form, Numbers, Bounds, Time, Preview, Text, Texts, Hinted, Channels, Custom, kind_of, bytes_of, Shaped, Good}
use Rattle.layout.specs.Decode.{told, sides, pixels, picture, texts_form, box_form, known, by_kind, read_value, time_valid, decode, Begins, Is, Means, questions, questions_by, Last, DecodeMeans, DecodeAsks, DecodeBack}
use Rattle.layout.proofs.Reading.{Sees, Exactly, part_sees, part_back, no_more, all_then, Asks, part_asks}
use Rattle.layout.proofs.Fielded.{fields_sees, fields_back, fields_written, fields_asks}
use Rattle.layout.proofs.Kinded.{own, kind_name, Has}
use Rattle.layout.proofs.Boxed.{box_back, box_held}
use Rattle.layout.proofs.Timed.{time_back, time_held}
use Rattle.layout.proofs.Texted.{counted_sees, counted_back, counted_written, counted_asks, SeesTexts, texts_sees, texts_back, texts_written, texts_asks}
use Rattle.layout.proofs.Channeled.{channels_sees, channels_back, few_channels, channels_written, channels_asks}

-- ---- what is read is what the bytes mean

abbrev Seen : Bytes → Bytes → Result Form ℕ → Type 0
Seen n xs (Ok f) = (n ≡ kind_of f) × Is f xs
Seen n xs (Err q) = Unit {0}

two : (ns : List ℕ) (bs : Bytes) → fields.Numbers sides ns bs → ns ≡ get_or ns 0 0 ∷ get_or ns 1 0 ∷ []
unfolding fields.Numbers
two [] bs is = absurd is
two (a ∷ []) bs is = absurd is.6
two (a ∷ b ∷ []) bs is = refl
two (a ∷ b ∷ c ∷ ns) bs is = absurd is.6.6

seen_fixed : (k : Fixed) (xs : Bytes) (a : Answer (List ℕ)) → Sees (fields.Numbers (fields_of k)) xs a → Seen (name_of (fixed k)) xs (told (Numbers k) a)
unfolding kind_of Is
seen_fixed k xs (Ok p) (bs, e, is) = (refl, (bs, p.1, e, is))
seen_fixed k xs (Err q) s = tt

seen_box : (xs : Bytes) (a : Answer (List ℕ)) → Sees (fields.Numbers corners) xs a → Seen (name_of box2i) xs (box_form (when_ok (front a) (λ ns. make_box (box_from ns))))
unfolding kind_of Is
seen_box xs (Err q) s = tt
seen_box xs (Ok p) (bs, e, is) = at (box_good (box_from p.0)) refl
  where
    at : (t : Bool) → box_good (box_from p.0) ≡ t → Seen (name_of box2i) xs (box_form (asked t 11 (box_from p.0)))
    at true good = (refl, (p.0, (bs, p.1, e, is), refl, good))
    at false good = tt

seen_time : (xs : Bytes) (a : Answer (List ℕ)) → Sees (fields.Numbers time_fields) xs a → Seen (name_of timecode) xs (told (λ ns. Time (time_from ns)) a)
unfolding kind_of Is
seen_time xs (Ok p) (bs, e, is) = (refl, (p.0, (bs, p.1, e, is), refl))
seen_time xs (Err q) s = tt

seen_picture : (xs : Bytes) (a : Answer (List ℕ)) → Sees (fields.Numbers sides) xs a →
    Seen (name_of preview) xs (front (next a (λ ns r. next (part (pixels ns) r) (λ b r. Ok (Preview (get_or ns 0 0) (get_or ns 1 0) b, r)))))
unfolding kind_of Is
seen_picture xs (Err q) s = tt
seen_picture xs (Ok p) (bs, e, is) = at (part (pixels p.0) p.1) (part_sees (pixels p.0) p.1)
  where
    at : (a : Answer Bytes) → Sees (Exactly (pixels p.0)) p.1 a → Seen (name_of preview) xs (front (next a (λ b r. Ok (Preview (get_or p.0 0 0) (get_or p.0 1 0) b, r))))
    at (Err q) s = tt
    at (Ok c) (cs, e', (same, long)) =
        (refl, (bs, c.1, e ∙ ap (λ (t : Bytes). bs ++ t) (e' ∙ ap (λ (t : Bytes). t ++ c.1) same), subst (λ (m : List ℕ). fields.Numbers sides m bs) (two p.0 bs is) is, long))

seen_texts : (xs : Bytes) (o : Result (List Bytes) ℕ) → SeesTexts (length xs) xs o → Seen (name_of stringvector) xs (texts_form o)
unfolding kind_of Is
seen_texts xs (Ok ts) s = (refl, s)
seen_texts xs (Err q) s = tt

seen_hinted : (xs : Bytes) (a : Answer Bytes) → Sees (texts.CountedIs 4294967295 (length xs)) xs a → Seen (name_of bytes) xs (texts.go_on a (λ h r. Ok (Hinted h r)))
unfolding kind_of Is
seen_hinted xs (Ok p) (bs, e, is) = (refl, (bs, e, is))
seen_hinted xs (Err q) s = tt

seen_channels : (xs : Bytes) (a : Answer (List Channel)) → Sees channels.ChannelsAre xs a → Seen (name_of chlist) xs (told Channels a)
unfolding kind_of Is
seen_channels xs (Ok p) (bs, e, are) = (refl, (bs, p.1, e, are))
seen_channels xs (Err q) s = tt

seen_known : (k : Kind) (xs : Bytes) → Seen (name_of k) xs (known k xs)
unfolding known kind_of Is
seen_known (fixed k) xs = seen_fixed k xs (fields.fields (fields_of k) xs) (fields_sees (fields_of k) xs)
seen_known box2i xs = seen_box xs (fields.fields corners xs) (fields_sees corners xs)
seen_known timecode xs = seen_time xs (fields.fields time_fields xs) (fields_sees time_fields xs)
seen_known preview xs = seen_picture xs (fields.fields sides xs) (fields_sees sides xs)
seen_known string xs = (refl, refl)
seen_known stringvector xs = seen_texts xs (texts.texts xs) (texts_sees (length xs) (length xs) xs)
seen_known bytes xs = seen_hinted xs (texts.counted 4294967295 (length xs) xs) (counted_sees 4294967295 (length xs) xs)
seen_known chlist xs = seen_channels xs (channels.channels xs) (channels_sees (suc (length xs)) xs)

seen_value : (n xs : Bytes) → Seen n xs (read_value n xs)
unfolding read_value kind_of Is
seen_value n xs = at (kind_named n) refl (kind_name n)
  where
    at : (o : Option Kind) → kind_named n ≡ o → Has n o → Seen n xs (by_kind o n xs)
    at (Some k) e h = subst (λ (m : Bytes). Seen m xs (known k xs)) (sym h) (seen_known k xs)
    at None e h = (refl, (refl, e))

-- ---- what the bytes mean is read

known_reads : (n xs : Bytes) (k : Kind) (f : Form) → n ≡ name_of k → known k xs ≡ Ok f → read_value n xs ≡ Ok f
unfolding read_value
known_reads n xs k f e r = ap (λ (o : Option Kind). by_kind o n xs) (ap kind_named e ∙ own k) ∙ r

fields_read : (fs : List Field) (ns : List ℕ) (xs : Bytes) → (is : Begins (fields.Numbers fs ns) xs) → fields.fields fs xs ≡ Ok (ns, is.1)
fields_read fs ns xs (bs, rest, e, is) = ap (fields.fields fs) e ∙ fields_back fs ns bs rest is

pub value_read : (n xs : Bytes) (f : Form) → Means n xs f → read_value n xs ≡ Ok f
unfolding kind_of Is known read_value
value_read n xs (Numbers k ns) (e, is) =
    known_reads n xs (fixed k) (Numbers k ns) e (ap (told (Numbers k)) (fields_read (fields_of k) ns xs is))
value_read n xs (Bounds b) (e, (ns, is, box, good)) =
    known_reads n xs box2i (Bounds b) e
    (ap (λ (a : Answer (List ℕ)). box_form (when_ok (front a) (λ ns. make_box (box_from ns)))) (fields_read corners ns xs is)
    ∙ ap (λ (c : Box). box_form (make_box c)) (sym box) ∙ ap (λ (t : Bool). box_form (asked t 11 b)) good)
value_read n xs (Time t) (e, (ns, is, time)) =
    known_reads n xs timecode (Time t) e
    (ap (told (λ ns. Time (time_from ns))) (fields_read time_fields ns xs is) ∙ ap (λ (u : TimeCode). Ok (Time u)) (sym time))
value_read n xs (Preview w h b) (e, (bs, rest, e', is, long)) =
    known_reads n xs preview (Preview w h b) e
    (ap (λ (t : Bytes). front (picture t)) e'
    ∙ ap (λ (a : Answer (List ℕ)). front (next a (λ ns r. next (part (pixels ns) r) (λ b r. Ok (Preview (get_or ns 0 0) (get_or ns 1 0) b, r)))))
    (fields_back sides (w ∷ h ∷ []) bs (b ++ rest) is)
    ∙ ap (λ (a : Answer Bytes). front (next a (λ b r. Ok (Preview w h b, r)))) (part_back (4 * w * h) b rest long))
value_read n xs (Text b) (e, same) = known_reads n xs string (Text b) e (ap (λ (t : Bytes). Ok (Text t)) (sym same))
value_read n xs (Texts ts) (e, are) =
    known_reads n xs stringvector (Texts ts) e (ap texts_form (texts_back (length xs) (length xs) ts xs (omega arith) are))
value_read n xs (Hinted h b) (e, (bs, e', is)) =
    known_reads n xs bytes (Hinted h b) e
    (ap (λ (a : Answer Bytes). texts.go_on a (λ h r. Ok (Hinted h r)))
    (ap (texts.counted 4294967295 (length xs)) e' ∙ counted_back 4294967295 (length xs) h bs b is))
value_read n xs (Channels cs) (e, (bs, rest, e', are)) =
    let l : length xs ≡ length (bs ++ rest) = ap length e' in
    let m = length-append bs rest in
    let few = few_channels cs bs are in
    known_reads n xs chlist (Channels cs) e
    (ap (told Channels) (ap (channels.channels_in (suc (length xs))) e' ∙ channels_back (suc (length xs)) cs bs rest (omega arith) are))
value_read n xs (Custom k b) (e, (same, none)) = custom n xs k b e same none
  where
    custom : (n xs k b : Bytes) → n ≡ k → b ≡ xs → kind_named k ≡ None → read_value n xs ≡ Ok (Custom k b)
    custom n xs k b e same none = ap (λ (o : Option Kind). by_kind o n xs) (ap kind_named e ∙ none) ∙ (λ i. Ok (Custom (e i) (sym same i)))

-- ---- both

abbrev Passed : Bytes → Bytes → Result Form ℕ → Type 0
Passed n xs (Ok f) = Means n xs f × (time_valid f ≡ true)
Passed n xs (Err q) = Unit {0}

pub decode_means_lem : DecodeMeans
unfolding decode
decode_means_lem n xs f = (
  λ e. subst (Passed n xs) e (passed (read_value n xs) (seen_value n xs)),
  λ is ok.
      ap (λ (r : Result Form ℕ). when_ok r (λ f. asked (time_valid f) 13 f)) (value_read n xs f is) ∙ ap (λ (t : Bool). asked t 13 f) ok,
)
  where
    passed : (r : Result Form ℕ) → Seen n xs r → Passed n xs (when_ok r (λ f. asked (time_valid f) 13 f))
    passed (Err q) s = tt
    passed (Ok g) s = at (time_valid g) refl
      where
        at : (t : Bool) → time_valid g ≡ t → Passed n xs (asked t 13 g)
        at true e = (s, e)
        at false e = tt

small_range : (n : ℕ) → n ≤ 40960 → n < range 4
small_range n h = omega arith

-- ---- what is written means the form, whatever stands behind the last field

pub written : (f : Form) (rest : Bytes) → Good f → Last f rest → Is f (bytes_of f ++ rest)
unfolding bytes_of Is Shaped Last
written (Numbers k ns) rest g l = (field_bytes (fields_of k) ns, rest, refl, fields_written (fields_of k) ns g.0)
written (Bounds b) rest g l =
    (corner_numbers b, (field_bytes corners (corner_numbers b), rest, refl, fields_written corners (corner_numbers b) (box_held b g.0)), sym (box_back b g.0), g.0)
written (Time t) rest g l =
    (time_numbers t, (field_bytes time_fields (time_numbers t), rest, refl, fields_written time_fields (time_numbers t) (time_held t g.0.0 g.0.1)), sym (time_back t g.0.0 g.0.1))
written (Preview w h b) rest g l =
    (field_bytes sides (w ∷ h ∷ []), rest, append_assoc (field_bytes sides (w ∷ h ∷ [])) b rest, fields_written sides (w ∷ h ∷ []) g.0.0, g.0.1)
written (Text b) rest g l = sym (ap (λ (t : Bytes). b ++ t) l ∙ append-nil b)
written (Texts ts) rest g l = all ts rest g.1 l
  where
    all : (ts : List Bytes) (rest : Bytes) → length (texts.texts_bytes ts) ≤ 40960 → rest ≡ [] → texts.TextsAre (length (texts.texts_bytes ts ++ rest)) ts (texts.texts_bytes ts ++ rest)
    all ts rest h e =
        subst (λ (xs : Bytes). texts.TextsAre (length xs) ts xs) (sym (ap (λ (t : Bytes). texts.texts_bytes ts ++ t) e ∙ append-nil (texts.texts_bytes ts)))
        (texts_written (length (texts.texts_bytes ts)) ts (omega arith) h)
written (Hinted h b) rest g l = hint h b rest g.1 l
  where
    hint : (h b rest : Bytes) → length (texts.counted_bytes h ++ b) ≤ 40960 → rest ≡ [] →
        (bs : Bytes) × ((texts.counted_bytes h ++ b) ++ rest ≡ bs ++ b) × texts.CountedIs 4294967295 (length ((texts.counted_bytes h ++ b) ++ rest)) h bs
    hint h b rest small e =
        let same : (texts.counted_bytes h ++ b) ++ rest ≡ texts.counted_bytes h ++ b = ap (λ (t : Bytes). (texts.counted_bytes h ++ b) ++ t) e ∙ append-nil (texts.counted_bytes h ++ b) in
        let l : length ((texts.counted_bytes h ++ b) ++ rest) ≡ length (texts.counted_bytes h ++ b) = ap length same in
        let m = length-append (texts.counted_bytes h) b in
        let k = length-append (low_first 4 (length h)) h in
        (texts.counted_bytes h, same, counted_written 4294967295 (length ((texts.counted_bytes h ++ b) ++ rest)) h (small_range (length h) (omega arith)) (omega arith) (omega arith))
written (Channels cs) rest g l = (channels.channels_bytes cs, rest, refl, channels_written cs g.0)
written (Custom k b) rest g l = (sym (ap (λ (t : Bytes). b ++ t) l ∙ append-nil b), g.0.1)

timely : (f : Form) → Good f → time_valid f ≡ true
unfolding Shaped
timely (Numbers k ns) g = refl
timely (Bounds b) g = refl
timely (Time t) g = g.0.1
timely (Preview w h b) g = refl
timely (Text b) g = refl
timely (Texts ts) g = refl
timely (Hinted h b) g = refl
timely (Channels cs) g = refl
timely (Custom k b) g = refl

pub decode_back_lem : DecodeBack
decode_back_lem f rest g l = (decode_means_lem (kind_of f) (bytes_of f ++ rest) f).1 (refl, written f rest g l) (timely f g)

-- ---- a refusal names the first question answered no

-- what is read is no time code, or is one
abbrev Timely : Result Form ℕ → Type 0
Timely (Ok f) = time_valid f ≡ true
Timely (Err q) = Unit {0}

as_before : (qs : List Question) (r : Result Form ℕ) → Timely r → FirstNo qs (refusal r) → FirstNo qs (refusal (when_ok r (λ f. asked (time_valid f) 13 f)))
as_before qs (Err q) t f = f
as_before qs (Ok g) t f = subst (λ (b : Bool). FirstNo qs (refusal (asked b 13 g))) (sym t) f

ask_told : {A : Type 0} (qs : List Question) (x : A) (r : Bytes) (g : A → Form) (a : Answer A) → ((x : A) → time_valid (g x) ≡ true) → Asks qs x r a →
    FirstNo qs (refusal (when_ok (told g a) (λ f. asked (time_valid f) 13 f)))
ask_told qs x r g (Err q) t s = s
ask_told qs x r g (Ok p) t s = subst (λ (b : Bool). FirstNo qs (refusal (asked b 13 (g p.0)))) (sym (t p.0)) s.0

-- one more question behind the fields
ask_one : {A : Type 0} (qs : List Question) (q : ℕ) (t : Bool) (x : A) → FirstNo qs None → FirstNo (qs ++ ((q, t ≡ true) ∷ [])) (refusal (asked t q x))
ask_one qs q true x f = all_then qs ((q, true ≡ true) ∷ []) None f (refl, tt)
ask_one qs q false x f = all_then qs ((q, false ≡ true) ∷ []) (Some q) f (inl ((λ e. both_ways false refl e), refl))

ask_box : (qs : List Question) (ns : List ℕ) (r : Bytes) (a : Answer (List ℕ)) → Asks qs ns r a →
    FirstNo (qs ++ ((11, box_good (box_from ns) ≡ true) ∷ [])) (refusal (when_ok (box_form (when_ok (front a) (λ ns. make_box (box_from ns)))) (λ f. asked (time_valid f) 13 f)))
ask_box qs ns r (Err q) s = no_more qs _ q s
ask_box qs ns r (Ok p) (f, e, e') =
    subst (λ (b : Box). FirstNo (qs ++ ((11, box_good b ≡ true) ∷ [])) (refusal (when_ok (box_form (make_box (box_from p.0))) (λ f. asked (time_valid f) 13 f)))) (ap box_from e)
    (at (box_good (box_from p.0)) (box_from p.0))
  where
    at : (t : Bool) (b : Box) → FirstNo (qs ++ ((11, t ≡ true) ∷ [])) (refusal (when_ok (box_form (asked t 11 b)) (λ f. asked (time_valid f) 13 f)))
    at true b = ask_one qs 11 true b f
    at false b = ask_one qs 11 false b f

ask_time : (qs : List Question) (ns : List ℕ) (r : Bytes) (a : Answer (List ℕ)) → Asks qs ns r a →
    FirstNo (qs ++ ((13, valid (time_from ns) ≡ true) ∷ [])) (refusal (when_ok (told (λ ns. Time (time_from ns)) a) (λ f. asked (time_valid f) 13 f)))
ask_time qs ns r (Err q) s = no_more qs _ q s
ask_time qs ns r (Ok p) (f, e, e') =
    subst (λ (ns : List ℕ). FirstNo (qs ++ ((13, valid (time_from ns) ≡ true) ∷ [])) (refusal (asked (valid (time_from p.0)) 13 (Time (time_from p.0))))) e
    (ask_one qs 13 (valid (time_from p.0)) (Time (time_from p.0)) f)

ask_picture : (qs : List Question) (ns : List ℕ) (r : Bytes) (a : Answer (List ℕ)) → Asks qs ns r a →
    FirstNo (qs ++ ((6, pixels ns ≤ length r) ∷ []))
    (refusal (when_ok (front (next a (λ ns r. next (part (pixels ns) r) (λ b r. Ok (Preview (get_or ns 0 0) (get_or ns 1 0) b, r))))) (λ f. asked (time_valid f) 13 f)))
ask_picture qs ns r (Err q) s = no_more qs _ q s
ask_picture qs ns r (Ok p) (f, e, e') =
    subst (λ (z : List ℕ × Bytes). FirstNo (qs ++ ((6, pixels z.0 ≤ length z.1) ∷ [])) (refusal (when_ok (front (next (part (pixels p.0) p.1) (λ b r. Ok (Preview (get_or p.0 0 0) (get_or p.0 1 0) b, r)))) (λ f. asked (time_valid f) 13 f)))) (λ i. (e i, e' i))
    (at (part (pixels p.0) p.1) (part_asks (pixels p.0) p.1))
  where
    at : (a : Answer Bytes) → Asks ((6, pixels p.0 ≤ length p.1) ∷ []) (take (pixels p.0) p.1) (drop (pixels p.0) p.1) a →
        FirstNo (qs ++ ((6, pixels p.0 ≤ length p.1) ∷ [])) (refusal (when_ok (front (next a (λ b r. Ok (Preview (get_or p.0 0 0) (get_or p.0 1 0) b, r)))) (λ f. asked (time_valid f) 13 f)))
    at (Ok c) s = all_then qs _ None f s.0
    at (Err q) s = all_then qs _ (Some q) f s

ask_texts : (qs : List Question) (o : Result (List Bytes) ℕ) → FirstNo qs (refusal o) → FirstNo qs (refusal (when_ok (texts_form o) (λ f. asked (time_valid f) 13 f)))
ask_texts qs (Ok ts) f = f
ask_texts qs (Err q) f = f

ask_hinted : (qs : List Question) (x r : Bytes) (a : Answer Bytes) → Asks qs x r a → FirstNo qs (refusal (when_ok (texts.go_on a (λ h r. Ok (Hinted h r))) (λ f. asked (time_valid f) 13 f)))
ask_hinted qs x r (Ok p) s = s.0
ask_hinted qs x r (Err q) s = s

ask_channels : (qs : List Question) (a : Answer (List Channel)) → FirstNo qs (refusal a) → FirstNo qs (refusal (when_ok (told Channels a) (λ f. asked (time_valid f) 13 f)))
ask_channels qs (Ok p) f = f
ask_channels qs (Err q) f = f

ask_known : (k : Kind) (xs : Bytes) → FirstNo (questions k xs) (refusal (when_ok (known k xs) (λ f. asked (time_valid f) 13 f)))
unfolding known questions
ask_known (fixed k) xs = ask_told (field_questions (fields_of k) xs) (numbers_at (fields_of k) xs) (drop (size (fields_of k)) xs) (Numbers k) (fields.fields (fields_of k) xs) (λ x. refl) (fields_asks (fields_of k) xs)
ask_known box2i xs = ask_box (field_questions corners xs) (numbers_at corners xs) (drop 16 xs) (fields.fields corners xs) (fields_asks corners xs)
ask_known timecode xs = ask_time (field_questions time_fields xs) (numbers_at time_fields xs) (drop 8 xs) (fields.fields time_fields xs) (fields_asks time_fields xs)
ask_known preview xs = ask_picture (field_questions sides xs) (numbers_at sides xs) (drop 8 xs) (fields.fields sides xs) (fields_asks sides xs)
ask_known string xs = tt
ask_known stringvector xs = ask_texts (texts.texts_questions (length xs) (length xs) xs) (texts.texts xs) (texts_asks (length xs) (length xs) xs)
ask_known bytes xs =
    ask_hinted (texts.counted_questions 4294967295 (length xs) xs) (take (whole (take 4 xs)) (drop 4 xs)) (drop (whole (take 4 xs)) (drop 4 xs))
    (texts.counted 4294967295 (length xs) xs) (counted_asks 4294967295 (length xs) xs)
ask_known chlist xs = ask_channels (channels.channels_questions (suc (length xs)) xs) (channels.channels xs) (channels_asks (suc (length xs)) xs)

pub decode_asks_lem : DecodeAsks
unfolding decode read_value
decode_asks_lem n xs = at (kind_named n)
  where
    at : (o : Option Kind) → FirstNo (questions_by o xs) (refusal (when_ok (by_kind o n xs) (λ f. asked (time_valid f) 13 f)))
    at (Some k) = ask_known k xs
    at None = tt
