use Rattle.std.proofs.Common.{arith, ◌≡◌, ◌∙◌, ◌+◌, ◌-◌, ◌<◌, ℕ, List, length, slice_get, Some, refl, sym, ap, subst}
use Rattle.std.proofs.lemmas.Option.{slice_get_read}
use Rattle.core_tree.specs.declared.node.Node.{Node}
use Rattle.core_nodes.specs.kept_nodes.Marked.{marked, Marks}
use Rattle.core_nodes.proofs.kept_nodes.Marking.{closed_more, reached_more, mark_read}
use Rattle.core_nodes.proofs.kept_nodes.marks.marks_under.Goals as goal

pub loop-left-preserved-then-index : goal.loop-left-preserved-then-index
loop-left-preserved-then-index c =
    let nodes = c.args.nodes.now in
    let from = c.args.from in
    let old = c.loop-left.marks.items in
    let new = c.mark_children.new.marks.items in
    let i = c.loop-left.left - 1 in
    let node : Node = c.index-nodes-from.result in
    let m : Marks from old new node.children (length node.children) = subst (λ (cs : List ℕ). Marks from old new cs (length cs)) (c.as_slice.ensures ∙ ap (λ (n : Node). n.children) (sym c.index-nodes-from.is)) c.mark_children.ensures in
    let left : 0 < c.loop-left.left = omega (arith, c.loop-left-test.true) in
    let within : from + i < length nodes = omega (arith, c.loop-left.invariant.long, c.loop-left.invariant.most) in
    let at : slice_get nodes (from + i) ≡ Some node = slice_get_read nodes (length nodes) (from + i) node refl within c.index-nodes-from.is in
    let on : marked old i = mark_read old i c.index.result.now (omega (arith, c.loop-left.invariant.most)) c.index.ensures c.if-index.true in
    record {
      long = omega (arith, c.loop-left.invariant.long, m.long);
      most = omega (arith, c.loop-left.invariant.most, m.long);
      highest = m.kept (c.args.top - from) c.loop-left.invariant.highest;
      closed = λ j le lt. closed_more nodes from c.args.top old new i node c.requires.order at on m j le (λ more. c.loop-left.invariant.closed j (omega (arith, more)) (omega (arith, m.long)));
      reached = reached_more nodes from c.args.top old new i node c.requires.order at on m c.loop-left.invariant.reached;
    }
