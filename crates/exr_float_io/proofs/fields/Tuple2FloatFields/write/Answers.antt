use Rattle.std.proofs.lemmas.Result.{err_from_is_err_and}
use Rattle.exr_sink.proofs.Runs.{gave_same, gave_on, gave_short}
use Rattle.exr_float_io.proofs.Joined.{bytes_joined}
use Rattle.exr_float_io.proofs.fields.Tuple2FloatFields.write.Goals as goal

pub returns-in_err-write-clause-takes : goal.returns-in_err-write-clause-takes
returns-in_err-write-clause-takes g c =
    let p = err_from_is_err_and c.from_residual.result c.from_residual.ensures.1 in
    let bytes = bytes_joined g.A.FloatFields.parts g.B.FloatFields.parts _ (g.B.FloatFields.written c.args.self.1) (g.met.A.FloatFields.long c.args.self.0) in
    rw (p.1, p.2) (gave_same _ _ _ _ _ bytes (gave_short _ _ _ _ _ c.in_err-write.ensures.takes))

pub returns-clause-takes : goal.returns-clause-takes
returns-clause-takes g c =
    let bytes = bytes_joined g.A.FloatFields.parts g.B.FloatFields.parts _ (g.B.FloatFields.written c.args.self.1) (g.met.A.FloatFields.long c.args.self.0) in
    gave_same _ _ _ _ _ bytes (gave_on _ _ _ _ _ _ c.in_ok-write.ensures.takes c.write-2.ensures.takes)
