-- What a packed time word says of the question on the time code.
use Rattle.std.proofs.Common.{◌≡◌, ℕ, Bool, true, false, cond, List, [], ◌∷◌, Some, None, Ok, Err, Option, Result, refl, subst, arith}
use Rattle.exr_error.specs.declared.refusal.Refusal.{Refusal}
use Rattle.exr_error.specs.declared.refusal.Refusal.TheVariants.{InvalidTimeCode}
use Rattle.exr_error.specs.declared.stop.Full.{Full}
use Rattle.layout.specs.Streams.{SinkMeaning}
use Rattle.layout.specs.Fields.{field_bytes}
use Rattle.layout.specs.TimeCodes as times
use Rattle.layout.specs.TimeCodes.{valid, pack, time_table, user_word, time_fields, time_numbers}
use Rattle.exr_sink.specs.Gifts.{GaveAll}
use Rattle.exr_sink.specs.Writing.{as_refusal, Wrote}
use Rattle.exr_sink.proofs.Written.{wrote_given}
use Rattle.exr_time_code.specs.Times.{time_ask, packing}

-- a word was packed exactly where nothing is asked any more
passed : (b : Bool) (w n : ℕ) → Ok n ≡ cond b (Ok w) (Err InvalidTimeCode) → (cond {A = Option ℕ} b None (Some 13) ≡ None) × (n ≡ w)
passed true w n e = (refl, cc)
passed false w n e = let z : ◌≡◌ {A = ℕ} 0 1 = cc in absurd (omega arith)

pub wrote_packed : (t : times.TimeCode) (m : SinkMeaning) (n u : ℕ) (r : Result (Unit {0}) Full) (q : Result (Unit {0}) Refusal) (m' : SinkMeaning) →
    Ok n ≡ packing t → u ≡ user_word t.groups → GaveAll m (field_bytes time_fields (n ∷ u ∷ [])) r m' → q ≡ as_refusal r →
    Wrote (time_ask t) m (field_bytes time_fields (time_numbers t)) q m'
unfolding time_numbers
wrote_packed t m n u r q m' e f g h =
    let p = passed (valid t) (pack (time_table t)) n e in
    wrote_given (time_ask t) m (field_bytes time_fields (time_numbers t)) r q m' p.0
    (subst (λ (ns : List ℕ). GaveAll m (field_bytes time_fields ns) r m') (λ i. p.1 i ∷ f i ∷ []) g) h
