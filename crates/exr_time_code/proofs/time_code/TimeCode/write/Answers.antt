use Rattle.std.proofs.Common.{rules}
use Rattle.exr_time_code.proofs.Packed.{wrote_packed}
use Rattle.exr_time_code.proofs.time_code.TimeCode.write.Goals as goal

pub returns-in_err-write_words-clause-takes : goal.returns-in_err-write_words-clause-takes
returns-in_err-write_words-clause-takes g c = search (rules, wrote_packed)

pub returns-clause-takes : goal.returns-clause-takes
returns-clause-takes g c = search (rules, wrote_packed)
