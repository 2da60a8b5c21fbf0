use Rattle.std.proofs.Common.{rules}
use lib.Ieee.Bits.{of_bits-to_bits}
use Rattle.exr_float.proofs.word.U64FloatWord.of_float.Goals as goal

pub returns-clause-back : goal.returns-clause-back
returns-clause-back c = search (rules, of_bits-to_bits)
