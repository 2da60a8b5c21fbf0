use Rattle.std.proofs.Common.{◌≡◌, take, ap}
use Rattle.layout.specs.Numbers.{low_first}
use Rattle.exr_sink.proofs.Runs.{gave_same}
use Rattle.exr_io.proofs.Words.{eight_low_first, take-low_first}
use Rattle.exr_io.proofs.number.write_le.Goals as goal

pub returns-clause-takes : goal.returns-clause-takes
returns-clause-takes g c =
    let w = g.D.Data.BYTE_SIZE in
    let bytes_are : take c.BYTE_SIZE.result c.to_le_bytes-bytes.result ≡ low_first w (g.D.Data.bits c.args.number) =
    rw (c.BYTE_SIZE.ensures, c.to_le_bytes-bytes.ensures, eight_low_first c.to_word.result, take-low_first w 8 c.to_word.result g.met.D.Data.narrow) (ap (low_first w) c.to_word.ensures.word) in
    gave_same _ _ _ _ _ bytes_are c.write_all.ensures.takes
