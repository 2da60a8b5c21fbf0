-- A buffer filled from a source, and the byte that comes next.
use Rattle.std.specs.Prelude.{◌≡◌, ℕ, min, [], ◌∷◌, length, Ok, Err, Option, Result, nat_le}
use Rattle.exr_error.specs.declared.stop.Stop.{Stop}
use Rattle.exr_error.specs.declared.fault.Fault.{Fault}
use Rattle.exr_error.specs.Refusals.{ended}
use Rattle.layout.specs.Numbers.{Bytes}
use Rattle.layout.specs.Streams.{SourceMeaning, after}
use Rattle.exr_read.specs.declared.read.Short.{Short}
use Rattle.exr_source.specs.Requests.{stop_at, laid}
use Rattle.exr_source.specs.Whole.{all_or}

abbrev pub short : Option ℕ → ℕ → Short
short s n = record { stop = stop_at s; got = n }

-- the fault of a call that takes one thing: 18 or 19, ordinal 0, the bytes that came
abbrev pub short_fault : Short → Fault
short_fault s = record { refusal = ended s.stop; ordinal = 0; bytes = s.got }

-- so many bytes are wanted and so many come
abbrev pub come : ℕ → SourceMeaning → ℕ
come n m = min n (length m.bytes)

-- n bytes are wanted: they all come, or all that are to come do, and then the stop
abbrev pub wanted : ℕ → SourceMeaning → Result (Unit {0}) Short
wanted n m = all_or (nat_le n (length m.bytes)) (short m.stop (length m.bytes))

-- the buffer is filled from its start
pub record Filled (m : SourceMeaning) (buffer : Bytes) (r : Result (Unit {0}) Short) (m' : SourceMeaning) (buffer' : Bytes) : Type 0 where
  pub answer : r ≡ wanted (length buffer) m
  pub laid_in : buffer' ≡ laid (come (length buffer) m) m.bytes buffer
  pub left : m' ≡ after (come (length buffer) m) m

-- the byte that comes next, or the stop
abbrev pub next_of : Bytes → Option ℕ → Result ℕ Stop
next_of [] s = Err (stop_at s)
next_of (b ∷ bs) s = Ok b
