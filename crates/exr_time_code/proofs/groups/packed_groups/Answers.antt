use Rattle.std.proofs.Common.{rules}
use Rattle.exr_time_code.proofs.UserWord.{next_group, next_fits}
use Rattle.exr_time_code.proofs.groups.packed_groups.Goals as goal

pub overflow_add-word : goal.overflow_add-word
overflow_add-word c = search (rules, next_fits)

pub loop-index-preserved : goal.loop-index-preserved
loop-index-preserved c = search (rules, next_group)
