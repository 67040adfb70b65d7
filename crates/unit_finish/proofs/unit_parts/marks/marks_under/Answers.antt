use Rattle.std.proofs.Common.{arith, ◌≡◌, ◌∙◌, ◌-◌, ◌<◌, ℕ, List, length, slice_get, Some, refl, sym, ap, subst}
use Rattle.std.proofs.lemmas.Option.{slice_get_read}
use Rattle.core_tree.specs.declared.node.Node.{Node}
use Rattle.core_nodes.specs.kept_nodes.Marked.{marked}
use Rattle.unit_finish.specs.unit_parts.Marked.{Marks}
use Rattle.unit_finish.proofs.unit_parts.Marking.{closed_more, reached_more, mark_read}
use Rattle.unit_finish.proofs.unit_parts.marks.marks_under.Goals as goal

pub loop-left-preserved-then-index : goal.loop-left-preserved-then-index
loop-left-preserved-then-index c =
    let nodes = c.args.nodes.now in
    let tops = c.args.tops.now in
    let old = c.loop-left.marks.items in
    let new = c.mark_all-then-index.new.marks.items in
    let i = c.loop-left.left - 1 in
    let node : Node = c.index-nodes-left.result in
    let m : Marks old new node.children (length node.children) = subst (λ (cs : List ℕ). Marks old new cs (length cs)) (c.as_slice.ensures ∙ ap (λ (n : Node). n.children) (sym c.index-nodes-left.is)) c.mark_all-then-index.ensures in
    let left : 0 < c.loop-left.left = omega (arith, c.loop-left-test.true) in
    let within : i < length nodes = omega (arith, c.loop-left.invariant.long, c.loop-left.invariant.most) in
    let at : slice_get nodes i ≡ Some node = slice_get_read nodes (length nodes) i node refl within c.index-nodes-left.is in
    let on : marked old i = mark_read old i c.index.result.now (omega (arith, c.loop-left.invariant.most)) c.index.ensures c.if-index.true in
    record {
      long = m.long ∙ c.loop-left.invariant.long;
      most = omega (arith, c.loop-left.invariant.most, m.long);
      tops = λ j lt. m.kept _ (c.loop-left.invariant.tops j lt);
      closed = λ j le. closed_more nodes tops old new i node c.requires.order at on m j le (λ more. c.loop-left.invariant.closed j (omega (arith, more)));
      reached = reached_more nodes tops old new i node c.requires.order at on m c.loop-left.invariant.reached;
    }
