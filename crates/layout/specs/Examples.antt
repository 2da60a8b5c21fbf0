-- The eight examples.
use Rattle.std.specs.Prelude.{◌≡◌, ℕ, false, [], ◌∷◌, ◌++◌, length, pos, negsuc, Some, None, Ok, Err, codes}
use Rattle.layout.specs.Numbers.{low_first}
use Rattle.layout.specs.Kinds.{int, name_of, timecode}
use Rattle.layout.specs.Boxes.{Box, make_box}
use Rattle.layout.specs.TimeCodes.{TimeCode}
use Rattle.layout.specs.Enumerations.{F16, sample_code}
use Rattle.layout.specs.Values.{Numbers, Bounds, Time, Channels, time, bytes_of}
use Rattle.layout.specs.Decode.{read_value}
use Rattle.layout.specs.Puts.{value_ask}
use Rattle.layout.specs.Records.{record_bytes, saved}

abbrev pub clock : ℕ → ℕ → ℕ → ℕ → TimeCode
clock h m s f = record {
  hours = h;
  minutes = m;
  seconds = s;
  frame = f;
  drop_frame = false;
  color_frame = false;
  field_phase = false;
  group_flags = false ∷ false ∷ false ∷ [];
  groups = 0 ∷ 0 ∷ 0 ∷ 0 ∷ 0 ∷ 0 ∷ 0 ∷ 0 ∷ [];
}

abbrev pub widest : ℕ → Box
widest side = record { position = (negsuc 1073741821, pos 0); size = (side, 1) }

pub record Examples : Type 0 where
  pub int_5 : record_bytes (codes "a") (Numbers int (5 ∷ [])) ≡ 0x61 ∷ 0 ∷ 0x69 ∷ 0x6E ∷ 0x74 ∷ 0 ∷ 4 ∷ 0 ∷ 0 ∷ 0 ∷ 5 ∷ 0 ∷ 0 ∷ 0 ∷ []
  pub empty : saved [] ≡ 0 ∷ []
  pub box : bytes_of (Bounds (record { position = (pos 10, pos 20); size = (3, 1) })) ≡ low_first 4 10 ++ (low_first 4 20 ++ (low_first 4 12 ++ low_first 4 20))
  pub widest_made : make_box (widest 2147483645) ≡ Ok (widest 2147483645)
  pub wider_refused : make_box (widest 2147483646) ≡ Err 11
  pub time_bytes : bytes_of (Time (clock 1 2 3 4)) ≡ 4 ∷ 3 ∷ 2 ∷ 1 ∷ 0 ∷ 0 ∷ 0 ∷ 0 ∷ []
  pub frame_29 : value_ask (time (clock 0 0 0 29)) ≡ None
  pub frame_30 : value_ask (time (clock 0 0 0 30)) ≡ Some 13
  pub one_channel : length (bytes_of (Channels (record { name = codes "R"; sample = sample_code F16; linear = 0; x = 1; y = 1 } ∷ []))) ≡ 19
  pub units_15 : read_value (name_of timecode) (low_first 8 0x0000000F) ≡ Ok (Time (clock 0 0 0 15))
  pub saved_15 : bytes_of (Time (clock 0 0 0 15)) ≡ low_first 8 0x00000015
