-- It is among those that are found from the switch.
use Rattle.std.proofs.Common.{find, ap, ◌∙◌}
use Rattle.ref_blocks.specs.Marks.{is_case_at}
use Rattle.ref_blocks.proofs.Marked.{case_found}
use Rattle.ref_blocks.proofs.targets.case_of.Goals as goal

pub loop-n-init : goal.loop-n-init
loop-n-init c =
    let nodes = c.args.trees.now.nodes.now in
    ap (find (is_case_at nodes c.args.s c.args.x)) c.marks_of-marks.ensures ∙ case_found nodes c.args.s c.args.x
