use Rattle.layout.proofs.Keyed.{key_codes_stand_lem}
use Rattle.layout.proofs.key_codes_stand.Goals as goal

pub returns : goal.returns
returns c = key_codes_stand_lem
