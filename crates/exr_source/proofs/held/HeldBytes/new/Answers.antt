use Rattle.std.proofs.Common.{arith}
use Rattle.layout.specs.Numbers.{EachByte}
use Rattle.exr_source.proofs.Bounded.{each_by_type}
use Rattle.exr_source.proofs.held.HeldBytes.new.Goals as goal

pub invariant_of-result : goal.invariant_of-result
invariant_of-result c =
    let below : EachByte c.args.bytes.now = each_by_type c.args.bytes.now (λ i. omega (arith, c.type_inv.bytes i)) in
    record { below = cc }
