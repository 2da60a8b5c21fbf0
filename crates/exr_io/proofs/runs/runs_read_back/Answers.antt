use Rattle.exr_io.proofs.Backs.{reads_back}
use Rattle.exr_io.proofs.runs.runs_read_back.Goals as goal

pub returns : goal.returns
returns g c = reads_back g.D.Data.BYTE_SIZE g.D.Data.fits g.D.Data.bits g.D.Data.value g.met.D.Data.below g.met.D.Data.back
