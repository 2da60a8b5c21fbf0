use Rattle.std.proofs.Common.{rules}
use Rattle.std.proofs.lemmas.Result.{err_from_is_err_and}
use Rattle.exr_bounds.specs.Bounds.{box_at}
use Rattle.exr_bounds.proofs.Boxes.{no_y, two_axes}
use Rattle.exr_bounds.proofs.bounds.IntegerBounds.new.Goals as goal

pub returns-in_err-new-2 : goal.returns-in_err-new-2
returns-in_err-new-2 c =
    let p = err_from_is_err_and c.from_residual-in_err-new-2.result c.from_residual-in_err-new-2.ensures.1 in
    rw (p.1, p.2) (no_y (box_at c.args.start c.args.size) c.in_ok-new.field-0 _ (search rules) (search rules))

pub returns : goal.returns
returns c = two_axes (box_at c.args.start c.args.size) c.in_ok-new.field-0 c.in_ok-new-2.field-0 (search rules) (search rules)
