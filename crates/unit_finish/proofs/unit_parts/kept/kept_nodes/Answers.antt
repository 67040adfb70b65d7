use Rattle.std.proofs.Common.{arith, ◌∙◌, ◌≤◌, List, length, map, take, ap}
use Rattle.core_tree.specs.declared.node.Node.{Node}
use Rattle.unit_finish.specs.unit_parts.Numbered.{moved, staying}
use Rattle.unit_finish.proofs.unit_parts.Ring.{short_take, staying_take}
use Rattle.unit_finish.proofs.unit_parts.kept.kept_nodes.Goals as goal

pub turned-requires : goal.turned-requires
turned-requires c =
    let numbers = c.args.numbers.now in
    let few : length (take (length numbers) c.args.nodes.items) ≤ length numbers = short_take (length numbers) c.args.nodes.items in
    omega (arith, ap length c.truncate.ensures.items, few)

pub returns : goal.returns
returns c =
    let numbers = c.args.numbers.now in
    c.shrink_to_fit.ensures.items
    ∙ (c.in_ok-kept.ensures
    ∙ (ap (λ (l : List Node). map (moved numbers) (staying l numbers)) c.truncate.ensures.items
    ∙ ap (map (moved numbers)) (staying_take c.args.nodes.items numbers)))
