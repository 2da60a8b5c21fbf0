-- What sources and sinks mean, without the code that makes them.
use Rattle.std.specs.Prelude.{◌≡◌, ℕ, ◌-◌, ◌≤◌, Bool, true, ◌&&◌, ◌∷◌, ◌++◌, take, drop, Some, None, Option, nat_le}
use Rattle.layout.specs.Numbers.{Bytes, EachByte}

-- ---- sources

-- the bytes to come, and the stop that is answered after them: the end, or some device number
pub record SourceMeaning : Type 0 where
  pub bytes : Bytes
  pub stop : Option ℕ

abbrev pub source_of : Bytes → Option ℕ → SourceMeaning
source_of bs s = record { bytes = bs; stop = s }

-- a device number is from 1 to 255
abbrev pub is_numbered : Option ℕ → Bool
is_numbered None = true
is_numbered (Some d) = nat_le 1 d && nat_le d 255

-- what each source's meaning keeps: its bytes are below 256, its device number is from 1 to 255
pub record Proper (m : SourceMeaning) : Type 0 where
  pub bytes : EachByte m.bytes
  pub number : is_numbered m.stop ≡ true

-- the meaning once k bytes have been given
abbrev pub after : ℕ → SourceMeaning → SourceMeaning
after k m = source_of (drop k m.bytes) m.stop

-- two sources, one after the other: the second comes only behind the first's end
abbrev pub chained_at : Option ℕ → Bytes → SourceMeaning → SourceMeaning
chained_at None bs n = source_of (bs ++ n.bytes) n.stop
chained_at (Some d) bs n = source_of bs (Some d)

abbrev pub chained : SourceMeaning → SourceMeaning → SourceMeaning
chained m n = chained_at m.stop m.bytes n

-- a kept byte stands before what is below
abbrev pub kept_before : Option ℕ → SourceMeaning → SourceMeaning
kept_before None m = m
kept_before (Some b) m = source_of (b ∷ m.bytes) m.stop

-- ---- sinks

-- the bytes taken, how many more it takes, and the stop that is answered then
pub record SinkMeaning : Type 0 where
  pub taken : Bytes
  pub room : ℕ
  pub stop : ℕ

abbrev pub sink_of : Bytes → ℕ → ℕ → SinkMeaning
sink_of bs n s = record { taken = bs; room = n; stop = s }

-- a stop number is from 1 to 255
pub record Stopping (m : SinkMeaning) : Type 0 where
  pub least : 1 ≤ m.stop
  pub most : m.stop ≤ 255

-- the meaning once the first k of some bytes have been taken
abbrev pub with : ℕ → Bytes → SinkMeaning → SinkMeaning
with k bs m = sink_of (m.taken ++ take k bs) (m.room - k) m.stop
