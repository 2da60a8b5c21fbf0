use Rattle.std.proofs.Common.{rules}
use Rattle.std.proofs.lemmas.Result.{err_from_is_err_and}
use Rattle.layout.specs.Boxes.{box_of}
use Rattle.exr_bounds.proofs.Boxes.{no_x, no_y, two_axes}
use Rattle.exr_bounds.proofs.bounds.IntegerBounds.of_corners.Goals as goal

pub returns-in_err-between : goal.returns-in_err-between
returns-in_err-between c =
    let p = err_from_is_err_and c.from_residual.result c.from_residual.ensures.1 in
    rw (p.1, p.2) (no_x (box_of c.args.a.0 c.args.a.1 c.args.b.0 c.args.b.1) _ (search rules))

pub returns-in_err-between-2 : goal.returns-in_err-between-2
returns-in_err-between-2 c =
    let p = err_from_is_err_and c.from_residual-in_err-between-2.result c.from_residual-in_err-between-2.ensures.1 in
    rw (p.1, p.2) (no_y (box_of c.args.a.0 c.args.a.1 c.args.b.0 c.args.b.1) c.in_ok-between.field-0 _ (search rules) (search rules))

pub returns : goal.returns
returns c = two_axes (box_of c.args.a.0 c.args.a.1 c.args.b.0 c.args.b.1) c.in_ok-between.field-0 c.in_ok-between-2.field-0 (search rules) (search rules)
