use Rattle.std.proofs.Common.{arith, pow_mono}
use Rattle.std.proofs.lemmas.Nat.{one_shl, pow_pos, mod_below}
use Rattle.exr_time_code.proofs.bits.Word.bits.Goals as goal

pub returns : goal.returns
returns c = grind (arith, one_shl, pow_pos, mod_below, pow_mono)
