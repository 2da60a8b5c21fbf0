use Rattle.layout.specs.Numbers.{low_first}
use Rattle.layout.specs.Streams.{SinkMeaning}
use Rattle.std.proofs.Common.{drop, Result}
use Rattle.std.specs.List.{flat_map}
use Rattle.exr_error.specs.declared.stop.Full.{Full}
use Rattle.exr_sink.specs.Gifts.{GaveAll}
use Rattle.exr_io.proofs.runs.write_slice_le.Given as goal

-- what comes of the rest of the numbers comes of all of them
abbrev pub invariant-loop-x : goal.invariant-loop-x
invariant-loop-x g l =
    let spelled = λ (x : g.row.D.Denot). low_first g.D.Data.BYTE_SIZE (g.D.Data.bits x) in
    record {
      takes : (r : Result (Unit {0}) Full) (m : SinkMeaning) → GaveAll (g.W.Sink.means l.sink) (flat_map spelled (drop l.x-index l.slice)) r m → GaveAll (g.W.Sink.means l.initial.sink) (flat_map spelled l.slice) r m;
      kept : g.W.Sink.keeps l.initial.sink l.sink;
    }
