use Rattle.layout.proofs.Putted.{records_ask}
use Rattle.layout.proofs.Scanned.{items_read, records_stand_lem}
use Rattle.layout.proofs.records_stand.Goals as goal

pub returns : goal.returns
returns c = (records_stand_lem, records_ask, items_read)
