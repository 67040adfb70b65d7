use Rattle.std.proofs.Common.{ap, ◌∙◌, map}
use Rattle.tree_reads.specs.Held.{parent_held}
use Rattle.tree_reads.proofs.Kept.{all_unknown}
use Rattle.tree_reads.proofs.held.ParentList.unknown.Goals as goal

pub returns : goal.returns
returns c = ap (map parent_held) (c.in_ok-held.ensures.items_if_clones_equal (λ y e. e)) ∙ all_unknown c.args.count
