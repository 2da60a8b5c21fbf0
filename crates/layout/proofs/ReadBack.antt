-- What is written reads back.
use Rattle.std.proofs.Common.{◌≡◌, ℕ, Bool, true, [], None, Ok, Result, sym, refl, ap, ◌∙◌, subst, append-nil}
use Rattle.layout.specs.Questions.{FirstNo, when_ok, asked}
use Rattle.layout.specs.Values.{Form, Numbers, Bounds, Time, Preview, Text, Texts, Hinted, Channels, Custom, kind_of, bytes_of, loaded_form, Good}
use Rattle.layout.specs.Decode.{decode, time_valid, Last}
use Rattle.layout.specs.Puts.{value_questions, as_value}
use Rattle.layout.specs.Laws.{ValuesReadBack, ReadWritesBack}
use Rattle.layout.proofs.Putted.{put_asks_lem, put_good}
use Rattle.layout.proofs.Forms.{decode_good}
use Rattle.layout.proofs.Decoded.{decode_back_lem}
use Rattle.layout.proofs.Takes.{put_takes}

pub values_read_back_lem : ValuesReadBack
values_read_back_lem v rest y e l = decode_back_lem (loaded_form v) rest (put_good v y e) l

-- a form that is taken for writing has a time code that is one
timely : (f : Form) → FirstNo (value_questions (as_value f)) None → time_valid f ≡ true
unfolding value_questions as_value
timely (Numbers k ns) q = refl
timely (Bounds b) q = refl
timely (Time t) q = q.0
timely (Preview w h b) q = refl
timely (Text b) q = refl
timely (Texts ts) q = refl
timely (Hinted h b) q = refl
timely (Channels cs) q = refl
timely (Custom k b) q = refl

nothing : (f : Form) → Last f []
unfolding Last
nothing (Numbers k ns) = tt
nothing (Bounds b) = tt
nothing (Time t) = tt
nothing (Preview w h b) = tt
nothing (Text b) = refl
nothing (Texts ts) = refl
nothing (Hinted h b) = refl
nothing (Channels cs) = tt
nothing (Custom k b) = refl

pub read_writes_back : ReadWritesBack
unfolding decode
read_writes_back n xs f named small each e taken =
    let ok : time_valid f ≡ true = timely f (subst (FirstNo (value_questions (as_value f))) taken (put_asks_lem (as_value f))) in
    let loaded : decode n xs ≡ Ok f = ap (λ (r : Result Form ℕ). when_ok r (λ f. asked (time_valid f) 13 f)) e ∙ ap (λ (t : Bool). asked t 13 f) ok in
    let good : Good f = decode_good n xs f named small each loaded in
    ((put_takes f good).2, ap (decode (kind_of f)) (sym (append-nil (bytes_of f))) ∙ decode_back_lem f [] good (nothing f))
