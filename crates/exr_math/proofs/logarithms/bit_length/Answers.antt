use Rattle.std.proofs.Common.{arith}
use Rattle.exr_math.proofs.Powers.{bit_length}
use Rattle.exr_math.proofs.logarithms.bit_length.Goals as goal

pub returns : goal.returns
returns c = bit_length c.args.number (omega arith)
