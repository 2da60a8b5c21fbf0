-- Time codes of the code, as the layout has them.
use Rattle.std.specs.Prelude.{ℕ, Bool, true, false, cond, Some, None, Ok, Err, Option, Result}
use Rattle.exr_error.specs.declared.refusal.Refusal.{Refusal}
use Rattle.exr_error.specs.declared.refusal.Refusal.TheVariants.{InvalidTimeCode}
use Rattle.layout.specs.Numbers.{Bytes}
use Rattle.layout.specs.Questions.{Answer, next}
use Rattle.layout.specs.TimeCodes as times
use Rattle.layout.specs.TimeCodes.{valid, pack, time_table, time_code}
use Rattle.exr_value.specs.Seen.{word}
use Rattle.exr_time_code.specs.declared.time_code.TimeCode.{TimeCode}

abbrev pub time_of : TimeCode → times.TimeCode
time_of t = record {
  hours = t.hours;
  minutes = t.minutes;
  seconds = t.seconds;
  frame = t.frame;
  drop_frame = t.drop_frame;
  color_frame = t.color_frame;
  field_phase = t.field_phase;
  group_flags = t.binary_group_flags;
  groups = t.binary_groups;
}

-- 13 unless the numbers are in their ranges
abbrev pub validity : Bool → Result (Unit {0}) Refusal
validity true = Ok tt
validity false = Err InvalidTimeCode

-- the question on a time code to be written
abbrev pub time_ask : times.TimeCode → Option ℕ
time_ask t = cond (valid t) None (Some 13)

-- the time word, by its table of bits; 13 unless the numbers are in their ranges
abbrev pub packing : times.TimeCode → Result ℕ Refusal
packing t = cond (valid t) (Ok (pack (time_table t))) (Err InvalidTimeCode)

-- the time code of two words, named
unfoldable pub code_of_words : ℕ → ℕ → times.TimeCode
code_of_words time user = time_code time user

-- the time word, then the user word
abbrev pub time_at : Bytes → Answer times.TimeCode
time_at xs = next (word xs) (λ time r. next (word r) (λ user r. Ok (code_of_words time user, r)))
