-- Values from a list, with their codes.
use Rattle.std.specs.Prelude.{◌≡◌, ℕ, zero, suc, ◌+◌, ◌*◌, List, [], ◌∷◌, Some, None, codes, Option}
use Rattle.layout.specs.Numbers.{Bytes}

pub data Compression : Type 0 where
  Uncompressed Rle Zip1 Zip16 Piz Pxr24 B44 B44a Dwaa Dwab Htj2k256 Htj2k32 : Compression

pub data Envmap : Type 0 where
  LatitudeLongitude Cube : Envmap

pub data LineOrder : Type 0 where
  Increasing Decreasing Unspecified : LineOrder

pub data SampleType : Type 0 where
  U32 F16 F32 : SampleType

pub data LevelMode : Type 0 where
  Singular MipMap RipMap : LevelMode

pub data RoundingMode : Type 0 where
  Down Up : RoundingMode

pub data BlockType : Type 0 where
  ScanLine Tile DeepScanLine DeepTile : BlockType

-- the cases of each, in the order of their codes from 0
abbrev pub compressions : List Compression
compressions = Uncompressed ∷ Rle ∷ Zip1 ∷ Zip16 ∷ Piz ∷ Pxr24 ∷ B44 ∷ B44a ∷ Dwaa ∷ Dwab ∷ Htj2k256 ∷ Htj2k32 ∷ []

abbrev pub envmaps : List Envmap
envmaps = LatitudeLongitude ∷ Cube ∷ []

abbrev pub line_orders : List LineOrder
line_orders = Increasing ∷ Decreasing ∷ Unspecified ∷ []

abbrev pub sample_types : List SampleType
sample_types = U32 ∷ F16 ∷ F32 ∷ []

abbrev pub level_modes : List LevelMode
level_modes = Singular ∷ MipMap ∷ RipMap ∷ []

abbrev pub rounding_modes : List RoundingMode
rounding_modes = Down ∷ Up ∷ []

abbrev pub compression_code : Compression → ℕ
compression_code Uncompressed = 0
compression_code Rle = 1
compression_code Zip1 = 2
compression_code Zip16 = 3
compression_code Piz = 4
compression_code Pxr24 = 5
compression_code B44 = 6
compression_code B44a = 7
compression_code Dwaa = 8
compression_code Dwab = 9
compression_code Htj2k256 = 10
compression_code Htj2k32 = 11

abbrev pub envmap_code : Envmap → ℕ
envmap_code LatitudeLongitude = 0
envmap_code Cube = 1

abbrev pub line_order_code : LineOrder → ℕ
line_order_code Increasing = 0
line_order_code Decreasing = 1
line_order_code Unspecified = 2

abbrev pub sample_code : SampleType → ℕ
sample_code U32 = 0
sample_code F16 = 1
sample_code F32 = 2

abbrev pub level_code : LevelMode → ℕ
level_code Singular = 0
level_code MipMap = 1
level_code RipMap = 2

abbrev pub rounding_code : RoundingMode → ℕ
rounding_code Down = 0
rounding_code Up = 1

abbrev pub mode_byte : LevelMode → RoundingMode → ℕ
mode_byte level rounding = level_code level + 16 * rounding_code rounding

abbrev pub block_text : BlockType → Bytes
block_text ScanLine = codes "scanlineimage"
block_text Tile = codes "tiledimage"
block_text DeepScanLine = codes "deepscanline"
block_text DeepTile = codes "deeptile"

-- the case at a place
abbrev pub nth : {A : Type 0} → List A → ℕ → Option A
nth [] n = None
nth (x ∷ xs) zero = Some x
nth (x ∷ xs) (suc n) = nth xs n

-- each case stands at its code
abbrev pub Coded : (A : Type 0) → List A → (A → ℕ) → Type 0
Coded A cases code = (a : A) → nth cases (code a) ≡ Some a

pub record EnumerationsCoded : Type 0 where
  pub compression : Coded Compression compressions compression_code
  pub envmap : Coded Envmap envmaps envmap_code
  pub line_order : Coded LineOrder line_orders line_order_code
  pub sample : Coded SampleType sample_types sample_code
  pub level : Coded LevelMode level_modes level_code
  pub rounding : Coded RoundingMode rounding_modes rounding_code
