-- One request to a source: what it answers, lays in the buffer and leaves to come.
use Rattle.std.specs.Prelude.{◌≡◌, ℕ, ◌<◌, ◌≤◌, [], ◌++◌, length, take, drop, Some, None, Ok, Err, Option, Result}
use Rattle.exr_error.specs.declared.stop.Stop.{Stop}
use Rattle.exr_error.specs.declared.stop.Stop.TheVariants.{End, Device}
use Rattle.layout.specs.Numbers.{Bytes}
use Rattle.layout.specs.Streams.{SourceMeaning, after}

-- the stop as the code answers it
abbrev pub stop_at : Option ℕ → Stop
stop_at None = End
stop_at (Some d) = Device d

-- a buffer whose first k bytes are the first k of some bytes, and which is as it was behind them
abbrev pub laid : ℕ → Bytes → Bytes → Bytes
laid k bs buffer = take k bs ++ drop k buffer

-- k bytes were given: at most as many as asked for and as were to come, and at least one where one was asked for
pub record Given (m : SourceMeaning) (buffer : Bytes) (k : ℕ) (m' : SourceMeaning) (buffer' : Bytes) : Type 0 where
  pub asked : k ≤ length buffer
  pub there : k ≤ length m.bytes
  pub some : 0 < length buffer → 0 < k
  pub laid_in : buffer' ≡ laid k m.bytes buffer
  pub left : m' ≡ after k m

-- one byte or more was asked for and none was to come: the stop was answered, and nothing changed
pub record Stopped (m : SourceMeaning) (buffer : Bytes) (e : Stop) (m' : SourceMeaning) (buffer' : Bytes) : Type 0 where
  pub asked : 0 < length buffer
  pub none : m.bytes ≡ []
  pub why : e ≡ stop_at m.stop
  pub laid_in : buffer' ≡ buffer
  pub left : m' ≡ m

-- a request for as many bytes as the buffer has
abbrev pub Requested : SourceMeaning → Bytes → Result ℕ Stop → SourceMeaning → Bytes → Type 0
Requested m buffer (Ok k) m' buffer' = Given m buffer k m' buffer'
Requested m buffer (Err e) m' buffer' = Stopped m buffer e m' buffer'
