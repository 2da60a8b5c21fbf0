use Rattle.std.proofs.Common.{Err, ap, ◌∙◌}
use Rattle.std.proofs.lemmas.Result.{err_from_is_err_and}
use Rattle.exr_sink.proofs.Runs.{gave_on}
use Rattle.exr_sink.proofs.Written.{gave_stop}
use Rattle.exr_preview.proofs.preview.write_parts.Goals as goal

pub returns-in_err-write_slice_le-clause-takes : goal.returns-in_err-write_slice_le-clause-takes
returns-in_err-write_slice_le-clause-takes g c =
    let p = err_from_is_err_and c.from_residual.result c.from_residual.ensures.1 in
    gave_stop c.args.pixels.now (p.1 ∙ ap Err p.2) c.in_err-write_slice_le.ensures.takes

pub returns-clause-takes : goal.returns-clause-takes
returns-clause-takes g c = gave_on _ _ _ _ _ _ c.in_ok-write_slice_le.ensures.takes c.write_all.ensures.takes
