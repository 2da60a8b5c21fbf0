-- The enumerations of the code, as the layout has them.
use Rattle.std.specs.Prelude.{◌≡◌, ℕ, IfOk, Bool, List, [], ◌∷◌, Some, None, Ok, Err, Option, Result, to_bits, Float}
use Rattle.std.specs.Float.{binary32}
use Rattle.exr_error.specs.declared.refusal.Refusal.{Refusal}
use Rattle.exr_error.specs.Refusals.{number_of}
use Rattle.layout.specs.Fields.{Field}
use Rattle.layout.specs.Questions.{asked}
use Rattle.layout.specs.Enumerations as layout
use Rattle.exr_code.specs.declared.compression.Compression.{Compression}
use Rattle.exr_code.specs.declared.compression.Compression.TheVariants.{Uncompressed, RLE, ZIP1, ZIP16, PIZ, PXR24, B44, B44A, DWAA, DWAB, HTJ2K256, HTJ2K32}
use Rattle.exr_code.specs.declared.environment_map.EnvironmentMap.{EnvironmentMap}
use Rattle.exr_code.specs.declared.environment_map.EnvironmentMap.TheVariants.{LatitudeLongitude, Cube}
use Rattle.exr_code.specs.declared.line_order.LineOrder.{LineOrder}
use Rattle.exr_code.specs.declared.line_order.LineOrder.TheVariants.{Increasing, Decreasing, Unspecified}

-- the code of a case that was found, or the number of the refusal
abbrev pub code_seen : {A : Type 0} → (A → ℕ) → Result A Refusal → Result ℕ ℕ
code_seen code (Ok x) = Ok (code x)
code_seen code (Err e) = Err (number_of e)

-- the case of a code, without what a file does not hold of it, or the refusal of a code that is not listed
abbrev pub Decodes : {A : Type 0} → (A → ℕ) → (ℕ → Bool) → ℕ → (A → Type 0) → ℕ → Result A Refusal → Type 0
Decodes code listed question Bare n r = (code_seen code r ≡ asked (listed n) question n) × IfOk r Bare

-- the one field of a code: a byte, of which is asked whether it is listed
abbrev pub one_code : ℕ → (ℕ → Bool) → List Field
one_code question listed = record { width = 1; question = question; admits = listed; keeps = λ n. n } ∷ []

abbrev pub envmap_of : EnvironmentMap → layout.Envmap
envmap_of LatitudeLongitude = layout.LatitudeLongitude
envmap_of Cube = layout.Cube

abbrev pub envmap_number : EnvironmentMap → ℕ
envmap_number e = layout.envmap_code (envmap_of e)

abbrev pub line_order_of : LineOrder → layout.LineOrder
line_order_of Increasing = layout.Increasing
line_order_of Decreasing = layout.Decreasing
line_order_of Unspecified = layout.Unspecified

abbrev pub line_order_number : LineOrder → ℕ
line_order_number e = layout.line_order_code (line_order_of e)

abbrev pub compression_of : Compression → layout.Compression
compression_of Uncompressed = layout.Uncompressed
compression_of RLE = layout.Rle
compression_of ZIP1 = layout.Zip1
compression_of ZIP16 = layout.Zip16
compression_of PIZ = layout.Piz
compression_of PXR24 = layout.Pxr24
compression_of B44 = layout.B44
compression_of B44A = layout.B44a
compression_of (DWAA l) = layout.Dwaa
compression_of (DWAB l) = layout.Dwab
compression_of HTJ2K256 = layout.Htj2k256
compression_of HTJ2K32 = layout.Htj2k32

abbrev pub compression_number : Compression → ℕ
compression_number e = layout.compression_code (compression_of e)

-- the level's bits, where one is given
abbrev pub level_bits : Option Float → Option ℕ
level_bits None = None
level_bits (Some x) = Some (to_bits binary32 x)

abbrev pub level_of : Compression → Option ℕ
level_of Uncompressed = None
level_of RLE = None
level_of ZIP1 = None
level_of ZIP16 = None
level_of PIZ = None
level_of PXR24 = None
level_of B44 = None
level_of B44A = None
level_of (DWAA l) = level_bits l
level_of (DWAB l) = level_bits l
level_of HTJ2K256 = None
level_of HTJ2K32 = None
