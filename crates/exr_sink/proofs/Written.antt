-- Giving bytes after questions.
use Rattle.std.proofs.Common.{◌≡◌, ℕ, Bool, true, false, leb, ◌++◌, length, None, Err, Option, Result, sym, refl, ap, ◌∙◌, subst}
use Rattle.exr_error.specs.declared.refusal.Refusal.{Refusal}
use Rattle.exr_error.specs.declared.stop.Full.{Full}
use Rattle.layout.specs.Numbers.{Bytes}
use Rattle.layout.specs.Streams.{SinkMeaning}
use Rattle.exr_source.specs.Whole.{all_or}
use Rattle.exr_sink.specs.Gifts.{full, GaveAll}
use Rattle.exr_sink.proofs.Runs.{gave_short}
use Rattle.exr_sink.specs.Writing.{taken_or, as_refusal, Wrote}

as_refusal_lem : (t : Bool) (s : ℕ) → as_refusal (all_or t (full s)) ≡ taken_or t s
as_refusal_lem true s = refl
as_refusal_lem false s = refl

-- no question is answered no, and the bytes were given
pub wrote_given : (o : Option ℕ) (m : SinkMeaning) (bs : Bytes) (r : Result (Unit {0}) Full) (q : Result (Unit {0}) Refusal) (m' : SinkMeaning) →
    o ≡ None → GaveAll m bs r m' → q ≡ as_refusal r → Wrote o m bs q m'
wrote_given o m bs r q m' none g e =
    subst (λ (p : Option ℕ). Wrote p m bs q m') (sym none)
    (e ∙ ap as_refusal g.answer ∙ as_refusal_lem (leb (length bs) m.room) m.stop, g.after)

-- a sink that stopped within the first bytes stopped within all of them
pub gave_stop : {m : SinkMeaning} {xs : Bytes} (bs : Bytes) {e : Full} {m' : SinkMeaning} {r : Result (Unit {0}) Full} → r ≡ Err e → GaveAll m xs (Err e) m' → GaveAll m (xs ++ bs) r m'
gave_stop {m} {xs} bs {e} {m'} {r} h g = subst (λ (x : Result (Unit {0}) Full). GaveAll m (xs ++ bs) x m') (sym h) (gave_short m xs bs e m' g)
