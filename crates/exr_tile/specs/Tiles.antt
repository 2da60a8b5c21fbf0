-- Tile descriptions of the code, as the layout has them.
use Rattle.std.specs.Prelude.{ℕ, cond, ◌&&◌, List, [], ◌∷◌, Some, None, Option, nat_le}
use Rattle.exr_math.specs.declared.rounding.RoundingMode.{RoundingMode}
use Rattle.exr_math.specs.declared.rounding.RoundingMode.TheVariants.{Down, Up}
use Rattle.exr_vec2.specs.declared.Vec2.{Vec2}
use Rattle.layout.specs.Enumerations as layout
use Rattle.layout.specs.Enumerations.{mode_byte}
use Rattle.exr_tile.specs.declared.level_mode.LevelMode.{LevelMode}
use Rattle.exr_tile.specs.declared.level_mode.LevelMode.TheVariants.{Singular, MipMap, RipMap}
use Rattle.exr_tile.specs.declared.tile_description.TileDescription.{TileDescription}

abbrev pub level_of : LevelMode → layout.LevelMode
level_of Singular = layout.Singular
level_of MipMap = layout.MipMap
level_of RipMap = layout.RipMap

abbrev pub rounding_of : RoundingMode → layout.RoundingMode
rounding_of Down = layout.Down
rounding_of Up = layout.Up

-- the mode byte of a level mode and a rounding mode
abbrev pub mode_number : LevelMode → RoundingMode → ℕ
mode_number level rounding = mode_byte (level_of level) (rounding_of rounding)

-- width, height and mode byte
abbrev pub tile_numbers : TileDescription → List ℕ
tile_numbers t = t.tile_size.0 ∷ t.tile_size.1 ∷ mode_number t.level_mode t.rounding_mode ∷ []

-- the question on the sides of a tile description to be written: at most 4294967295
abbrev pub sides_ask : Vec2 ℕ → Option ℕ
sides_ask s = cond (nat_le s.0 4294967295 && nat_le s.1 4294967295) None (Some 12)
