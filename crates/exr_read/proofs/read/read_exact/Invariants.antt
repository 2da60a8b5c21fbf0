use Rattle.std.proofs.Common.{◌-◌, length}
use Rattle.exr_read.proofs.Filling.{Filling}
use Rattle.exr_read.proofs.read.read_exact.Given as goal

abbrev pub invariant-loop-filled : goal.invariant-loop-filled
invariant-loop-filled g l = record {
  fills : Filling (g.S.Source.means l.initial.source) l.initial.buffer l.filled (g.S.Source.means l.source) l.buffer;
  kept : g.S.Source.keeps l.initial.source l.source;
}

abbrev pub decreases-loop-filled : goal.decreases-loop-filled
decreases-loop-filled g l = length l.initial.buffer - l.filled
