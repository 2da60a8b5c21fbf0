use Rattle.std.proofs.Common.{rules, arith}
use Rattle.exr_number.proofs.Orders.{lt_numbers}
use Rattle.exr_math.proofs.rounding.RoundingMode.divide.Goals as goal

pub divide_down-requires : goal.divide_down-requires
divide_down-requires g c =
    let zero = g.met.T.Number.from_u8 0 _ (omega arith) c.from.ensures in
    let one = g.met.T.Number.from_u8 1 _ (omega arith) c.from-else-lt.ensures in
    let lt = lt_numbers g.T.Number.value g.met.T.Ord.matches_partial_cmp g.met.T.Number.order in
    search rules

pub divide_up-requires : goal.divide_up-requires
divide_up-requires g c =
    let zero = g.met.T.Number.from_u8 0 _ (omega arith) c.from.ensures in
    let one = g.met.T.Number.from_u8 1 _ (omega arith) c.from-else-lt.ensures in
    let lt = lt_numbers g.T.Number.value g.met.T.Ord.matches_partial_cmp g.met.T.Number.order in
    search rules
