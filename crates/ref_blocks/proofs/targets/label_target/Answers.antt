-- It is among those that are found from the topmost node.
use Rattle.std.proofs.Common.{find, ap, ◌∙◌}
use Rattle.ref_blocks.specs.Ways.{root_of}
use Rattle.ref_blocks.specs.Marks.{marks_of, is_label_at}
use Rattle.ref_blocks.proofs.Marked.{label_found}
use Rattle.ref_blocks.proofs.targets.label_target.Goals as goal

pub loop-t-init : goal.loop-t-init
loop-t-init c =
    let nodes = c.args.trees.now.nodes.now in
    ap (find (is_label_at nodes (root_of nodes c.args.n) c.args.name.now)) (c.marks_of-marks.ensures ∙ ap (marks_of nodes) c.root_of-root.ensures)
    ∙ label_found nodes c.args.n c.args.name.now
