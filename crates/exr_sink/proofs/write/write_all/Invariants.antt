use Rattle.std.proofs.Common.{length, Result}
use Rattle.exr_error.specs.declared.stop.Full.{Full}
use Rattle.layout.specs.Streams.{SinkMeaning}
use Rattle.exr_sink.specs.Gifts.{GaveAll}
use Rattle.exr_sink.proofs.write.write_all.Given as goal

-- what comes of the rest comes of all
abbrev pub invariant-loop-rest : goal.invariant-loop-rest
invariant-loop-rest g l = record {
  takes : (r : Result (Unit {0}) Full) (m : SinkMeaning) → GaveAll (g.W.Sink.means l.sink) l.rest r m → GaveAll (g.W.Sink.means l.initial.sink) l.bytes r m;
  kept : g.W.Sink.keeps l.initial.sink l.sink;
}

abbrev pub decreases-loop-rest : goal.decreases-loop-rest
decreases-loop-rest g l = length l.rest
