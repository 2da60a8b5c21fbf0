use Rattle.std.proofs.Common.{◌≡◌, take}
use Rattle.layout.specs.TimeCodes.{user_word}
use Rattle.exr_time_code.proofs.groups.packed_groups.Given as goal

abbrev pub invariant-loop-index : goal.invariant-loop-index
invariant-loop-index l = l.word ≡ user_word (take l.index l.groups)
