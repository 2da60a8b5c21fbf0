use Rattle.layout.proofs.Enough.{bound_never_decides}
use Rattle.layout.proofs.ReadBack.{values_read_back_lem, read_writes_back}
use Rattle.layout.proofs.values_read_back.Goals as goal

pub returns : goal.returns
returns c = (values_read_back_lem, read_writes_back, bound_never_decides)
