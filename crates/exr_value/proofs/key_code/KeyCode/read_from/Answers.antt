use Rattle.std.proofs.Common.{refl}
use Rattle.exr_read.proofs.Filling.{filled_whole}
use Rattle.exr_value.proofs.Keys.{key_code_kept, key_code_never}
use Rattle.exr_value.proofs.key_code.KeyCode.read_from.Goals as goal

pub returns-in_err-key_code-clause-takes : goal.returns-in_err-key_code-clause-takes
returns-in_err-key_code-clause-takes g c =
    absurd (key_code_never refl (filled_whole _ _ _ _ _ c.in_ok-read_exact.ensures.fills) _ c.read.result _ c.read.ensures c.map_err.ensures.cases c.in_err-key_code.was)

pub returns-clause-takes : goal.returns-clause-takes
returns-clause-takes g c =
    key_code_kept refl (filled_whole _ _ _ _ _ c.in_ok-read_exact.ensures.fills) _ c.read.result (c.in_ok-key_code.key_code, c.in_ok-key_code.field-0-1) (g.met.S.Source.proper _).bytes c.read.ensures c.map_err.ensures.cases c.in_ok-key_code.was
