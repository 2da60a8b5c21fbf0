use Rattle.std.proofs.Common.{rules}
use Rattle.std.proofs.lemmas.Result.{err_from_is_err_and}
use Rattle.exr_bounds.specs.Bounds.{box_of, moved}
use Rattle.exr_bounds.proofs.Boxes.{no_x, no_y, two_axes}
use Rattle.exr_bounds.proofs.bounds.IntegerBounds.with_origin.Goals as goal

pub returns-in_err-moved : goal.returns-in_err-moved
returns-in_err-moved c =
    let p = err_from_is_err_and c.from_residual.result c.from_residual.ensures.1 in
    rw (p.1, p.2) (no_x (moved c.args.origin (box_of c.args.self)) _ (search rules))

pub returns-in_err-moved-2 : goal.returns-in_err-moved-2
returns-in_err-moved-2 c =
    let p = err_from_is_err_and c.from_residual-in_err-moved-2.result c.from_residual-in_err-moved-2.ensures.1 in
    rw (p.1, p.2) (no_y (moved c.args.origin (box_of c.args.self)) c.in_ok-moved.field-0 _ (search rules) (search rules))

pub returns : goal.returns
returns c = two_axes (moved c.args.origin (box_of c.args.self)) c.in_ok-moved.field-0 c.in_ok-moved-2.field-0 (search rules) (search rules)
