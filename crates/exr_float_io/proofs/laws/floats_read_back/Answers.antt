use Rattle.exr_float_io.proofs.Back.{floats_read_back_lem}
use Rattle.exr_float_io.proofs.laws.floats_read_back.Goals as goal

pub returns : goal.returns
returns c = floats_read_back_lem
