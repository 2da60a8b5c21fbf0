use Rattle.exr_value.proofs.Keys.{key_codes_read_back_lem}
use Rattle.exr_value.proofs.key_code.key_codes_read_back.Goals as goal

pub returns : goal.returns
returns c = key_codes_read_back_lem
