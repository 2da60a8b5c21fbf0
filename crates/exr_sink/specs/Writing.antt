-- Bytes given to a sink after questions: a question answered no is the refusal, and the sink stays; otherwise the bytes are given.
use Rattle.std.specs.Prelude.{◌≡◌, ℕ, min, Bool, length, Some, None, Ok, Err, Option, Result, nat_le}
use Rattle.exr_error.specs.declared.refusal.Refusal.{Refusal}
use Rattle.exr_error.specs.declared.refusal.Refusal.TheVariants.{SinkFull}
use Rattle.exr_error.specs.declared.stop.Full.{Full}
use Rattle.exr_error.specs.Refusals.{number_of, sink_full}
use Rattle.layout.specs.Numbers.{Bytes}
use Rattle.layout.specs.Streams.{SinkMeaning, with}
use Rattle.exr_source.specs.Whole.{all_or}

-- the number of a refusal
abbrev pub refused_by : Result (Unit {0}) Refusal → Option ℕ
refused_by (Ok x) = None
refused_by (Err e) = Some (number_of e)

-- whether all were taken, or 20 with the stop
abbrev pub taken_or : Bool → ℕ → Result (Unit {0}) Refusal
taken_or b s = all_or b (SinkFull s)

-- how a sink's answer is told as a refusal
abbrev pub as_refusal : Result (Unit {0}) Full → Result (Unit {0}) Refusal
as_refusal (Ok x) = Ok tt
as_refusal (Err f) = Err (sink_full f)

abbrev pub Wrote : Option ℕ → SinkMeaning → Bytes → Result (Unit {0}) Refusal → SinkMeaning → Type 0
Wrote (Some q) m bs r m' = (refused_by r ≡ Some q) × (m' ≡ m)
Wrote None m bs r m' = (r ≡ taken_or (nat_le (length bs) m.room) m.stop) × (m' ≡ with (min (length bs) m.room) bs m)
