use Rattle.exr_math.proofs.Quotients.{floor_answer}
use Rattle.exr_math.proofs.rounding.divide_down.Goals as goal

pub returns : goal.returns
returns g c =
    floor_answer g.T.Number.value g.T.Number.range _ _ c.checked_div.result g.met.T.Number.zero c.checked_div.ensures.within c.requires c.checked_div.ensures.answer
