use Rattle.std.proofs.Common.{Err, ap, ◌∙◌}
use Rattle.std.proofs.lemmas.Result.{err_from_is_err_and}
use Rattle.layout.specs.Numbers.{low_first}
use Rattle.exr_sink.proofs.Written.{gave_stop}
use Rattle.exr_tile.specs.Tiles.{mode_number}
use Rattle.exr_tile.proofs.tile_description.write_parts.Goals as goal

pub returns-in_err-write_slice_le-clause-takes : goal.returns-in_err-write_slice_le-clause-takes
returns-in_err-write_slice_le-clause-takes g c =
    let p = err_from_is_err_and c.from_residual.result c.from_residual.ensures.1 in
    gave_stop (low_first 1 (mode_number c.args.modes.level c.args.modes.rounding)) (p.1 ∙ ap Err p.2) c.in_err-write_slice_le.ensures.takes
