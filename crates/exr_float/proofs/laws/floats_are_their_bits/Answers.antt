use lib.Ieee.{binary32, binary64}
use Rattle.exr_float.specs.Patterns.{single_kept, double_kept, same}
use Rattle.exr_float.proofs.laws.floats_are_their_bits.Goals as goal

pub returns : goal.returns
returns c = record {
  single_kept = single_kept;
  double_kept = double_kept;
  single_same = same binary32;
  double_same = same binary64;
}
