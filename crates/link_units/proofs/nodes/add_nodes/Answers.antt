use Rattle.std.proofs.Common.{◌≡◌, List, length, slice_index, arith, sym, subst}
use Rattle.core_tree.specs.declared.node.Node.{Node}
use Rattle.link_units.proofs.Adding.{AreSoFar, so_far_none, next_so_far, so_far_more, added_all, empty_of}
use Rattle.link_units.proofs.nodes.add_nodes.Goals as goal

pub loop-node-init : goal.loop-node-init
loop-node-init c =
    subst (λ (l : List Node). AreSoFar c.args.types c.args.start (λ e. slice_index c.args.entities.now e) c.args.nodes.items c.args.list.now.items c.args.list.now.items l) (sym c.from_vec-rest.ensures.items)
    (so_far_none c.args.types c.args.start (λ e. slice_index c.args.entities.now e) c.args.nodes.items c.args.list.now.items)

pub moved_node-requires-clause-ty : goal.moved_node-requires-clause-ty
moved_node-requires-clause-ty c =
    let n = next_so_far c.args.types c.args.start (λ e. slice_index c.args.entities.now e) c.args.nodes.items c.args.list.now.items c.loop-node.list.items c.loop-node.rest.items c.pop_front.new.self.items c.in-Some.node c.loop-node.invariant c.in-Some.ensures.items in
    c.requires.types c.loop-node.invariant.done c.in-Some.node n.there

pub moved_node-requires-clause-children : goal.moved_node-requires-clause-children
moved_node-requires-clause-children c = λ k d lt.
    let n = next_so_far c.args.types c.args.start (λ e. slice_index c.args.entities.now e) c.args.nodes.items c.args.list.now.items c.loop-node.list.items c.loop-node.rest.items c.pop_front.new.self.items c.in-Some.node c.loop-node.invariant c.in-Some.ensures.items in
    let named = c.requires.named.each c.loop-node.invariant.done c.in-Some.node n.there in
    let below = named.children k d lt in
    let within = n.within in
    let few = c.requires.few in
    omega arith

pub moved_node-requires-clause-named : goal.moved_node-requires-clause-named
moved_node-requires-clause-named c =
    let n = next_so_far c.args.types c.args.start (λ e. slice_index c.args.entities.now e) c.args.nodes.items c.args.list.now.items c.loop-node.list.items c.loop-node.rest.items c.pop_front.new.self.items c.in-Some.node c.loop-node.invariant c.in-Some.ensures.items in
    (c.requires.named.each c.loop-node.invariant.done c.in-Some.node n.there).named

pub moved_node-requires-clause-listed : goal.moved_node-requires-clause-listed
moved_node-requires-clause-listed c =
    let n = next_so_far c.args.types c.args.start (λ e. slice_index c.args.entities.now e) c.args.nodes.items c.args.list.now.items c.loop-node.list.items c.loop-node.rest.items c.pop_front.new.self.items c.in-Some.node c.loop-node.invariant c.in-Some.ensures.items in
    (c.requires.named.each c.loop-node.invariant.done c.in-Some.node n.there).listed

pub loop-node-preserved : goal.loop-node-preserved
loop-node-preserved c =
    let next = so_far_more c.args.types c.args.start (λ e. slice_index c.args.entities.now e) c.args.nodes.items c.args.list.now.items c.loop-node.list.items c.loop-node.rest.items c.pop_front.new.self.items c.in-Some.node c.in_ok-moved_node.field-0 c.loop-node.invariant c.in-Some.ensures.items c.in_ok-moved_node.ensures in
    subst (λ (l : List Node). AreSoFar c.args.types c.args.start (λ e. slice_index c.args.entities.now e) c.args.nodes.items c.args.list.now.items l c.pop_front.new.self.items) (sym c.in_ok-push.ensures.items) next

pub returns : goal.returns
returns c =
    let empty = (c.in_default.ensures.cases).0 in
    let none : length c.loop-node.rest.items ≡ 0 = omega (arith, empty) in
    added_all c.args.types c.args.start (λ e. slice_index c.args.entities.now e) c.args.nodes.items c.args.list.now.items c.loop-node.list.items c.loop-node.rest.items c.loop-node.invariant (empty_of c.loop-node.rest.items none)
