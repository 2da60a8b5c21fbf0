use Rattle.exr_sink.proofs.Giving.{took_on}
use Rattle.exr_sink.proofs.write.write_all.Goals as goal

pub loop-rest-preserved : goal.loop-rest-preserved
loop-rest-preserved g c = record {
  takes = λ r m h. c.loop-rest.invariant.takes r m (took_on _ _ _ _ r m c.in_ok-k.ensures.takes h);
  kept = g.met.W.Sink.steady.on _ _ _ c.loop-rest.invariant.kept c.in_ok-k.ensures.kept;
}
