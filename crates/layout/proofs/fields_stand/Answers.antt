use Rattle.layout.proofs.Fielded.{fields_stand_lem}
use Rattle.layout.proofs.fields_stand.Goals as goal

pub returns : goal.returns
returns c = fields_stand_lem
