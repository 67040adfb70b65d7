use Rattle.std.proofs.Common.{◌+◌, ◌<◌, ◌∙◌, ℕ, List, All, length, map, sym, ap, subst}
use Rattle.carried_trees.proofs.Behind.{raised_within}
use Rattle.carried_trees.proofs.nodes.push_carried.Goals as goal

pub push_node-requires-clause-children : goal.push_node-requires-clause-children
push_node-requires-clause-children c =
    let from = c.args.from in
    let room = length c.args.unit.now.nodes.items in
    let e = c.in_ok-children.ensures.raised ∙ ap (map (λ (i : ℕ). from + i)) c.as_slice.ensures in
    subst (λ (l : List ℕ). All (λ (i : ℕ). i < room) l) (sym e) (raised_within from room c.args.node.children c.requires.children)
