-- One gift of bytes to a sink, and all of some bytes.
use Rattle.std.specs.Prelude.{◌≡◌, ℕ, ◌<◌, ◌≤◌, min, length, Ok, Err, Result, nat_le}
use Rattle.exr_error.specs.declared.stop.Full.{Full}
use Rattle.layout.specs.Numbers.{Bytes}
use Rattle.layout.specs.Streams.{SinkMeaning, with}
use Rattle.exr_source.specs.Whole.{all_or}

abbrev pub full : ℕ → Full
full s = record { number = s }

-- k bytes were taken: at most as many as were given and as it takes, and at least one where one was given
pub record Took (m : SinkMeaning) (bs : Bytes) (k : ℕ) (m' : SinkMeaning) : Type 0 where
  pub given : k ≤ length bs
  pub room : k ≤ m.room
  pub some : 0 < length bs → 0 < k
  pub after : m' ≡ with k bs m

-- one byte or more was given and none is taken any more: the stop was answered, and nothing changed
pub record Refused (m : SinkMeaning) (bs : Bytes) (e : Full) (m' : SinkMeaning) : Type 0 where
  pub given : 0 < length bs
  pub none : m.room ≡ 0
  pub why : e ≡ full m.stop
  pub after : m' ≡ m

abbrev pub Gave : SinkMeaning → Bytes → Result ℕ Full → SinkMeaning → Type 0
Gave m bs (Ok k) m' = Took m bs k m'
Gave m bs (Err e) m' = Refused m bs e m'

-- all of some bytes were given: they were taken, or the first ones were, as many as it takes, and then the stop was answered
pub record GaveAll (m : SinkMeaning) (bs : Bytes) (r : Result (Unit {0}) Full) (m' : SinkMeaning) : Type 0 where
  pub answer : r ≡ all_or (nat_le (length bs) m.room) (full m.stop)
  pub after : m' ≡ with (min (length bs) m.room) bs m
