use Rattle.std.proofs.Common.{rules}
use Rattle.exr_bounds.proofs.Boxes.{places}
use Rattle.exr_bounds.proofs.axis.Axis.between.Goals as goal

pub returns : goal.returns
returns c = search (rules, places)
