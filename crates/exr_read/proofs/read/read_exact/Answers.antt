use Rattle.exr_read.proofs.Filling.{filling_more, given_mapped}
use Rattle.exr_read.proofs.read.read_exact.Goals as goal

pub loop-filled-preserved : goal.loop-filled-preserved
loop-filled-preserved g c = record {
  fills = filling_more _ _ _ _ _ c.loop-filled.invariant.fills _ _ _ (given_mapped _ c.read.result c.in_ok-filled.field-0 c.read.ensures.gives c.map_err.ensures.cases c.in_ok-filled.was);
  kept = g.met.S.Source.steady.on _ _ _ c.loop-filled.invariant.kept c.read.ensures.kept;
}
