use Rattle.layout.proofs.Numbered.{numbers_as_bytes}
use Rattle.layout.proofs.numbers_are_bytes.Goals as goal

pub returns : goal.returns
returns c = numbers_as_bytes
