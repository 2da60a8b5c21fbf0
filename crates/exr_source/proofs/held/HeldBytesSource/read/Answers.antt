use Rattle.layout.proofs.Numbered.{bytes_drop}
use Rattle.exr_source.proofs.held.HeldBytesSource.read.Goals as goal

-- what is left of bytes below 256 is below 256
pub invariant_of-self : goal.invariant_of-self
invariant_of-self c = record { below = rw c.split_at.ensures.back (bytes_drop c.min-k.result c.args.self.now.rest.now c.args.self.now.below) }
