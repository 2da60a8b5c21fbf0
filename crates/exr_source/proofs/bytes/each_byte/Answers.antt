use Rattle.std.proofs.Common.{arith}
use Rattle.exr_source.proofs.Bounded.{each_by_type}
use Rattle.exr_source.proofs.bytes.each_byte.Goals as goal

pub returns : goal.returns
returns c = each_by_type c.args.bytes.now (λ i. omega (arith, c.type_inv.bytes i))
