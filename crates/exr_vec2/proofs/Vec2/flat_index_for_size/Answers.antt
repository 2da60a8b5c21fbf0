use Rattle.std.proofs.Common.{rules, arith}
use Rattle.exr_number.proofs.Orders.{lt_numbers, le_numbers}
use Rattle.exr_vec2.proofs.Vec2.flat_index_for_size.Goals as goal

pub returns-then-not-contains : goal.returns-then-not-contains
returns-then-not-contains g c =
    let zero = g.met.T.Number.from_u8 0 _ (omega arith) c.from-zero.ensures in
    let lt = lt_numbers g.T.Number.value g.met.T.Ord.matches_partial_cmp g.met.T.Number.order in
    let le = le_numbers g.T.Number.value g.met.T.Ord.matches_partial_cmp g.met.T.Number.order in
    search rules

pub returns : goal.returns
returns g c =
    let zero = g.met.T.Number.from_u8 0 _ (omega arith) c.from-zero.ensures in
    let lt = lt_numbers g.T.Number.value g.met.T.Ord.matches_partial_cmp g.met.T.Number.order in
    let le = le_numbers g.T.Number.value g.met.T.Ord.matches_partial_cmp g.met.T.Number.order in
    search rules
