use Rattle.layout.proofs.Order.{names_ordered}
use Rattle.layout.proofs.names_are_ordered.Goals as goal

pub returns : goal.returns
returns c = names_ordered
