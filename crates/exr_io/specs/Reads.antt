-- Numbers of a width taken from a source.
use Rattle.std.specs.Prelude.{◌≡◌, ℕ, Bool, true, false, length, take, Ok, Err, Option, Result, nat_le}
use Rattle.exr_error.specs.declared.stop.Stop.{Stop}
use Rattle.layout.specs.Numbers.{whole}
use Rattle.layout.specs.Streams.{SourceMeaning, after}
use Rattle.exr_source.specs.Requests.{stop_at}
use Rattle.exr_read.specs.Fills.{come}

-- a value, or the stop
abbrev pub one_or : {X : Type 0} → Bool → X → Option ℕ → Result X Stop
one_or true x s = Ok x
one_or false x s = Err (stop_at s)

-- a number of w bytes is taken: it comes, or the stop does, and the bytes that came are gone
pub record ReadLe {X : Type 0} (w : ℕ) (value : ℕ → X) (m : SourceMeaning) (r : Result X Stop) (m' : SourceMeaning) : Type 0 where
  pub answer : r ≡ one_or (nat_le w (length m.bytes)) (value (whole (take w m.bytes))) m.stop
  pub left : m' ≡ after (come w m) m
