-- Runs of numbers of one width, one directly after the other.
use Rattle.std.specs.Prelude.{◌≡◌, ℕ, ◌*◌, cond, List, [], ◌∷◌, length, take, drop, Result, nat_le}
use Rattle.std.specs.List.{All, flat_map}
use Rattle.exr_error.specs.declared.stop.Stop.{Stop}
use Rattle.layout.specs.Numbers.{Bytes, whole, low_first}
use Rattle.layout.specs.Streams.{SourceMeaning, after}
use Rattle.exr_read.specs.Fills.{come}
use Rattle.exr_io.specs.Reads.{one_or}

-- the places of a slice, each overwritten by the number that comes for it, while numbers come whole
abbrev pub read_into : {X : Type 0} → ℕ → (ℕ → X) → List X → Bytes → List X
read_into w value [] bs = []
read_into w value (x ∷ xs) bs = cond (nat_le w (length bs)) (value (whole (take w bs)) ∷ read_into w value xs (drop w bs)) (x ∷ xs)

-- a slice of numbers of w bytes is read
pub record ReadRun {X : Type 0} (w : ℕ) (value : ℕ → X) (m : SourceMeaning) (slice : List X) (r : Result (Unit {0}) Stop) (m' : SourceMeaning) (slice' : List X) : Type 0 where
  pub answer : r ≡ one_or (nat_le (length slice * w) (length m.bytes)) tt m.stop
  pub laid_in : slice' ≡ read_into w value slice m.bytes
  pub left : m' ≡ after (come (length slice * w) m) m

-- the bytes of numbers read back as these numbers, into any slice as long
abbrev pub RunsReadBack : {X : Type 0} → ℕ → (X → Type 0) → (X → ℕ) → (ℕ → X) → Type 0
RunsReadBack {X} w fits bits value =
    (xs slice : List X) → All fits xs → length slice ≡ length xs → read_into w value slice (flat_map (λ x. low_first w (bits x)) xs) ≡ xs
