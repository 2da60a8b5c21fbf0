-- Bytes that are refused, one for each question of a field, and some that are just taken.
use Rattle.std.specs.Prelude.{◌≡◌, ℕ, false, [], ◌∷◌, ◌++◌, replicate, pos, Some, None, Ok, Err, codes, Option}
use Rattle.layout.specs.Numbers.{Bytes, low_first}
use Rattle.layout.specs.Kinds.{box2f, int, float, double, rational, v2i, v2f, v3i, v3f, m33f, m44f, chromaticities, keycode, compression, tiledesc, fields_of}
use Rattle.layout.specs.Enumerations.{Singular, Down}
use Rattle.layout.specs.Values.{Numbers, Bounds, Preview, Text, Texts, Hinted, Channels, Custom, GivenChannel, kept, tiles, time, picture, text, texts, channels, custom}
use Rattle.layout.specs.Puts.{value_ask}
use Rattle.layout.specs.Decode.{decode}

-- a channel R with a sample type, a linearity byte, three reserved bytes and two samplings, and the closing 00
abbrev pub channel_r : ℕ → ℕ → ℕ → ℕ → ℕ → Bytes
channel_r sample linear other x y =
    0x52 ∷ 0 ∷ (low_first 4 sample ++ (linear ∷ other ∷ other ∷ other ∷ (low_first 4 x ++ (low_first 4 y ++ (0 ∷ [])))))

abbrev pub corners : ℕ → ℕ → ℕ → ℕ → Bytes
corners a b c d = low_first 4 a ++ (low_first 4 b ++ (low_first 4 c ++ low_first 4 d))

pub record Refusals : Type 0 where
  pub short : decode (codes "int") (1 ∷ 2 ∷ 3 ∷ []) ≡ Err 6
  pub surplus : decode (codes "v2i") (low_first 4 7 ++ (low_first 4 9 ++ (1 ∷ []))) ≡ Ok (Numbers v2i (7 ∷ 9 ∷ []))
  pub nan : decode (codes "float") (low_first 4 0xFF800001) ≡ Ok (Numbers float (0x7FC00000 ∷ []))
  pub infinite : decode (codes "float") (low_first 4 0xFF800000) ≡ Ok (Numbers float (0xFF800000 ∷ []))
  pub compression_11 : decode (codes "compression") (11 ∷ []) ≡ Ok (Numbers compression (11 ∷ []))
  pub compression_12 : decode (codes "compression") (12 ∷ []) ≡ Err 8
  pub envmap_2 : decode (codes "envmap") (2 ∷ []) ≡ Err 7
  pub line_order_3 : decode (codes "lineOrder") (3 ∷ []) ≡ Err 7
  pub mode_18 : decode (codes "tiledesc") (low_first 4 1 ++ (low_first 4 1 ++ (18 ∷ []))) ≡ Ok (Numbers tiledesc (1 ∷ 1 ∷ 18 ∷ []))
  pub mode_3 : decode (codes "tiledesc") (low_first 4 1 ++ (low_first 4 1 ++ (3 ∷ []))) ≡ Err 7
  pub mode_32 : decode (codes "tiledesc") (low_first 4 1 ++ (low_first 4 1 ++ (32 ∷ []))) ≡ Err 7
  pub pixels : decode (codes "preview") (low_first 4 1 ++ (low_first 4 1 ++ (1 ∷ 2 ∷ 3 ∷ []))) ≡ Err 6
  pub negative_text : decode (codes "stringvector") (low_first 4 0xFFFFFFFF) ≡ Err 10
  pub long_text : decode (codes "stringvector") (low_first 4 5) ≡ Err 10
  pub missing_text : decode (codes "stringvector") (low_first 4 4) ≡ Err 6
  pub empty_text : decode (codes "stringvector") (low_first 4 0) ≡ Ok (Texts ([] ∷ []))
  pub long_hint : decode (codes "bytes") (low_first 4 5) ≡ Err 10
  pub missing_hint : decode (codes "bytes") (low_first 4 4) ≡ Err 6
  pub reserved : decode (codes "chlist") (channel_r 2 1 9 1 1) ≡ Ok (Channels (record { name = codes "R"; sample = 2; linear = 1; x = 1; y = 1 } ∷ []))
  pub sample_3 : decode (codes "chlist") (channel_r 3 2 0 1 1) ≡ Err 7
  pub linear_2 : decode (codes "chlist") (channel_r 1 2 0 1 1) ≡ Err 7
  pub negative_x : decode (codes "chlist") (channel_r 1 1 0 0x80000000 1) ≡ Err 10
  pub negative_y : decode (codes "chlist") (channel_r 1 1 0 1 0x80000000) ≡ Err 10
  pub no_end : decode (codes "chlist") [] ≡ Err 6
  pub name_256 : decode (codes "chlist") (replicate 256 0x52) ≡ Err 9
  pub name_255 : decode (codes "chlist") (replicate 255 0x52) ≡ Err 6
  pub box_out : decode (codes "box2i") (corners 0 0 1073741823 0) ≡ Err 11
  pub box_turned : decode (codes "box2i") (corners 12 20 10 20) ≡ decode (codes "box2i") (corners 10 20 12 20)
  pub frame_30 : decode (codes "timecode") (low_first 8 0x30) ≡ Err 13
  pub box_taken : decode (codes "box2i") (corners 10 20 12 20) ≡ Ok (Bounds (record { position = (pos 10, pos 20); size = (3, 1) }))
  pub preview_taken : decode (codes "preview") (low_first 4 1 ++ (low_first 4 1 ++ (1 ∷ 2 ∷ 3 ∷ 4 ∷ 5 ∷ []))) ≡ Ok (Preview 1 1 (1 ∷ 2 ∷ 3 ∷ 4 ∷ []))
  pub string_taken : decode (codes "string") (1 ∷ 2 ∷ []) ≡ Ok (Text (1 ∷ 2 ∷ []))
  pub bytes_taken : decode (codes "bytes") (low_first 4 1 ++ (7 ∷ 8 ∷ 9 ∷ [])) ≡ Ok (Hinted (7 ∷ []) (8 ∷ 9 ∷ []))
  pub custom_taken : decode (codes "mine") (1 ∷ 2 ∷ []) ≡ Ok (Custom (codes "mine") (1 ∷ 2 ∷ []))

-- a channel as it is given
abbrev pub given_channel : Option Bytes → ℕ → ℕ → GivenChannel
given_channel name x y = record { name = name; sample = 0; linear = 0; x = x; y = y }

-- values that put refuses, one for each number, and some that it just takes
pub record PutRefusals : Type 0 where
  pub no_kind : value_ask (custom [] []) ≡ Some 2
  pub known_kind : value_ask (custom (codes "int") []) ≡ Some 3
  pub other_kind : value_ask (custom (codes "Int") []) ≡ None
  pub no_place : value_ask (channels (given_channel None 1 1 ∷ [])) ≡ Some 9
  pub no_name : value_ask (channels (given_channel (Some (codes "R")) 2147483648 1 ∷ given_channel (Some []) 1 1 ∷ [])) ≡ Some 9
  pub sampling : value_ask (channels (given_channel (Some (codes "R")) 1 2147483648 ∷ [])) ≡ Some 10
  pub sampled : value_ask (channels (given_channel (Some (codes "R")) 0 2147483647 ∷ [])) ≡ None
  pub no_text : value_ask (texts (Some [] ∷ None ∷ [])) ≡ Some 10
  pub wide : value_ask (tiles 4294967296 1 Singular Down) ≡ Some 12
  pub wide_fits : value_ask (tiles 4294967295 0 Singular Down) ≡ None
  pub pixels_missing : value_ask (picture 1 1 []) ≡ Some 12
  pub group_16 : value_ask (time (record {
    hours = 0;
    minutes = 0;
    seconds = 0;
    frame = 0;
    drop_frame = false;
    color_frame = false;
    field_phase = false;
    group_flags = false ∷ false ∷ false ∷ [];
    groups = 16 ∷ 0 ∷ 0 ∷ 0 ∷ 0 ∷ 0 ∷ 0 ∷ 0 ∷ [];
  })) ≡ Some 13
  pub long : value_ask (text (replicate 40961 0)) ≡ Some 5
  pub long_fits : value_ask (text (replicate 40960 0)) ≡ None

-- integers keep all bits; a float that is not a number becomes the one
pub record KindsKeep : Type 0 where
  pub keep_int : kept (fields_of int) (replicate 1 0x7F800001) ≡ replicate 1 0x7F800001
  pub keep_rational : kept (fields_of rational) (replicate 2 0x7F800001) ≡ replicate 2 0x7F800001
  pub keep_v2i : kept (fields_of v2i) (replicate 2 0x7F800001) ≡ replicate 2 0x7F800001
  pub keep_v3i : kept (fields_of v3i) (replicate 3 0x7F800001) ≡ replicate 3 0x7F800001
  pub keep_keycode : kept (fields_of keycode) (replicate 7 0x7F800001) ≡ replicate 7 0x7F800001
  pub keep_float : kept (fields_of float) (replicate 1 0x7F800001) ≡ replicate 1 0x7FC00000
  pub keep_v2f : kept (fields_of v2f) (replicate 2 0x7F800001) ≡ replicate 2 0x7FC00000
  pub keep_v3f : kept (fields_of v3f) (replicate 3 0x7F800001) ≡ replicate 3 0x7FC00000
  pub keep_box2f : kept (fields_of box2f) (replicate 4 0x7F800001) ≡ replicate 4 0x7FC00000
  pub keep_chromaticities : kept (fields_of chromaticities) (replicate 8 0x7F800001) ≡ replicate 8 0x7FC00000
  pub keep_m33f : kept (fields_of m33f) (replicate 9 0x7F800001) ≡ replicate 9 0x7FC00000
  pub keep_m44f : kept (fields_of m44f) (replicate 16 0x7F800001) ≡ replicate 16 0x7FC00000
  pub keep_double : kept (fields_of double) (0x7FF0000000000001 ∷ []) ≡ 0x7FF8000000000000 ∷ []
