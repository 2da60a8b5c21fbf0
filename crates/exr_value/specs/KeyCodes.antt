-- The seven numbers of a key code, as their bits, in the order of the layout.
use Rattle.std.specs.Prelude.{◌≡◌, ℕ, ◌<◌, List, [], ◌∷◌, ◌++◌, length, Ok, Err, Result, FitsSigned}
use Rattle.std.specs.Int.{w32}
use Rattle.std.proofs.Common.{of_z}
use Rattle.exr_error.specs.declared.fault.Fault.{Fault}
use Rattle.layout.specs.Numbers.{Bytes}
use Rattle.layout.specs.Streams.{SourceMeaning, source_of}
use Rattle.layout.specs.Fields.{fields, size}
use Rattle.layout.specs.KeyCodes.{key_code, key_code_bytes}
use Rattle.exr_read.specs.Fills.{short, short_fault}
use Rattle.exr_value.specs.declared.key_code.KeyCode.{KeyCode}

abbrev pub numbers_of : KeyCode → List ℕ
numbers_of k =
    of_z w32 k.film_manufacturer_code ∷ of_z w32 k.film_type ∷ of_z w32 k.film_roll_prefix ∷ of_z w32 k.count
    ∷ of_z w32 k.perforation_offset ∷ of_z w32 k.perforations_per_frame ∷ of_z w32 k.perforations_per_count ∷ []

-- a key code is taken from a source: just its bytes have been given; or fewer were to come, and these have
abbrev pub Taken : SourceMeaning → Result KeyCode Fault → SourceMeaning → Type 0
Taken m (Ok k) m' = (m.bytes ≡ key_code_bytes (numbers_of k) ++ m'.bytes) × (m'.stop ≡ m.stop)
Taken m (Err f) m' = (length m.bytes < size key_code) × (f ≡ short_fault (short m.stop (length m.bytes))) × (m' ≡ source_of [] m.stop)

-- each of the seven numbers has 32 bits
abbrev pub Fits : KeyCode → Type 0
Fits k =
    FitsSigned w32 k.film_manufacturer_code × FitsSigned w32 k.film_type × FitsSigned w32 k.film_roll_prefix × FitsSigned w32 k.count
    × FitsSigned w32 k.perforation_offset × FitsSigned w32 k.perforations_per_frame × FitsSigned w32 k.perforations_per_count

pub record KeyCodesReadBack : Type 0 where
  -- what is written for a key code reads as its numbers
  pub back : (k : KeyCode) (rest : Bytes) → Fits k → fields key_code (key_code_bytes (numbers_of k) ++ rest) ≡ Ok (numbers_of k, rest)
  -- and no other key code has them
  pub one : (k j : KeyCode) → Fits k → Fits j → numbers_of k ≡ numbers_of j → k ≡ j
