use Rattle.std.proofs.Common.{◌<◌, length, Err, ap, ◌∙◌, arith}
use Rattle.std.proofs.lemmas.List.{set-get_or}
use Rattle.std.proofs.lemmas.Result.{err_from_is_err_and}
use Rattle.exr_io.proofs.Sliced.{rest_on, rest_stopped, rest_done}
use Rattle.exr_io.proofs.runs.read_slice_le.Goals as goal

pub returns-in_err-x-clause-gives : goal.returns-in_err-x-clause-gives
returns-in_err-x-clause-gives g c =
    let p = err_from_is_err_and c.from_residual.result c.from_residual.ensures.1 in
    let h : c.loop-x.x-index < length c.loop-x.x-items = omega arith in
    rw set-get_or (rest_stopped _ _ _ _ _ _ _ c.loop-x.invariant.gives h c.x-item.result _ _ c.from_residual.result c.in_err-x.ensures.gives (p.1 ∙ ap Err p.2))

pub loop-x-preserved : goal.loop-x-preserved
loop-x-preserved g c = record {
  gives = rest_on _ _ _ _ _ _ _ c.loop-x.invariant.gives (omega arith) _ _ c.in_ok-x.ensures.gives;
  kept = g.met.S.Source.steady.on _ _ _ c.loop-x.invariant.kept c.in_ok-x.ensures.kept;
}

pub returns-clause-gives : goal.returns-clause-gives
returns-clause-gives g c = rest_done _ _ _ _ _ _ _ c.loop-x.invariant.gives (omega arith)
