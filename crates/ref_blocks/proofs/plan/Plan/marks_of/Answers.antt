-- What is read is the list of the node.
use Rattle.std.proofs.Common.{ℕ, List, [], get_or, ap, ◌∙◌}
use Rattle.ref_blocks.proofs.Marked.{read_marks}
use Rattle.ref_blocks.proofs.plan.Plan.marks_of.Goals as goal

pub returns : goal.returns
returns c =
    c.list_at.ensures
    ∙ (ap (λ (w : List (List ℕ)). get_or w c.args.m []) c.as_slice.ensures.value
    ∙ read_marks c.args.trees.now.nodes.now c.args.m c.args.self.now.marks.items c.requires.marks)
