use Rattle.exr_io.proofs.Sliced.{Rest}
use Rattle.exr_io.proofs.runs.read_slice_le.Given as goal

abbrev pub invariant-loop-x : goal.invariant-loop-x
invariant-loop-x g l = record {
  gives : Rest g.D.Data.BYTE_SIZE g.D.Data.value (g.S.Source.means l.initial.source) l.initial.x-items l.x-index (g.S.Source.means l.source) l.x-items;
  kept : g.S.Source.keeps l.initial.source l.source;
}
