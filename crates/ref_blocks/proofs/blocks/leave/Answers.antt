-- What ends and what stays.
use Rattle.std.proofs.Common.{refl, ◌∙◌}
use Rattle.core_tree.specs.Seen.{core_of}
use Rattle.ref_blocks.proofs.Ended.{left_from}
use Rattle.ref_blocks.proofs.blocks.leave.Goals as goal

pub returns : goal.returns
returns c =
    let r = left_from (core_of c.args.trees.now) c.args.block c.args.memory.now c.args.doors.now
    (record { own = c.in_ok-kept.kept; fresh = c.args.doors.now.fresh; ended = c.parted.new.ended })
    c.objects_of-objects.result.now c.as_slice.result.now c.as_slice-2.result.now c.replace-ended.result
    c.objects_of-objects.ensures c.as_slice.ensures (c.as_slice-2.ensures ∙ c.replace-own.ensures.value) c.replace-ended.ensures.value c.requires.ended
    c.in_ok-kept.ensures.own c.in_ok-kept.ensures.ended refl in
    record { ended = r.0; blocks = r.1 }
