use Rattle.std.proofs.Common.{◌≡◌, ◌+◌, ◌≤◌, length, refl, ap, arith}
use Rattle.std.proofs.lemmas.List.{length-take}
use Rattle.exr_sink.proofs.Laying.{put_length, put_behind}
use Rattle.exr_sink.proofs.lent.filling.LentBufferSink.write.Goals as goal

pub returns-clause-kept : goal.returns-clause-kept
returns-clause-kept c =
    let at = c.args.self.now.at in
    let buffer = c.args.self.now.buffer.now in
    let part = c.in_ok-part.part.now in
    let now = c.copy_from_slice.new.self in
    let within : at + length part ≤ length buffer = omega (arith, simp length-take at (ap length c.in_ok-part.ensures.part)) in
    let fits : length now ≡ length part = ap length c.copy_from_slice.ensures.after in
    record { lender = refl; long = put_length at (length part) buffer now within fits; further = omega arith; behind = put_behind at (length part) buffer now within fits }
