use Rattle.exr_io.proofs.Taken.{taken_number}
use Rattle.exr_io.proofs.number.read_le.Goals as goal

pub returns-clause-gives : goal.returns-clause-gives
returns-clause-gives g c = taken_number _ _ c.BYTE_SIZE.ensures g.met.D.Data.narrow _ _ _ _ c.in_ok-read_exact.ensures.fills g.D.Data.value _ _ (g.met.S.Source.proper _).bytes c.from_le_bytes.ensures c.from_word.ensures.value
