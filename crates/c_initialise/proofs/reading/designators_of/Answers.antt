use Rattle.std.proofs.Common.{sym, ◌∙◌}
use Rattle.c_initialise.specs.Facts.{told}
use Rattle.c_initialise.proofs.Listed.{take_designator, skip_designator}
use Rattle.c_initialise.proofs.reading.designators_of.Goals.{then-is_child+in_ok-designator+in_ok-push_designator, else-is_child}
use Rattle.c_initialise.proofs.reading.designators_of.Goals as goal

pub loop-child-preserved : goal.loop-child-preserved
loop-child-preserved c =
    let s = told c.args.source.now in
    let nodes = c.args.source.now.syntax.now.tree.now.nodes.items in
    let all = c.children_of-child-items.result.now in
    elim c.if-is_child.branch [
      | then-is_child+in_ok-designator+in_ok-push_designator w ↦
          rw w.designators-is (take_designator s nodes c.args.item all c.children_of-child-items.ensures c.loop-child.child-index _ c.loop-child-test.true
          _ c.loop-child.designators.items _ w.in_ok-designator.designator (sym c.is_child.ensures ∙ w.if-is_child.true) c.loop-child.invariant w.in_ok-push_designator.ensures w.in_ok-designator.ensures)
      | else-is_child w ↦
          rw w.designators-is (skip_designator s nodes c.args.item all c.children_of-child-items.ensures c.loop-child.child-index _ c.loop-child-test.true
          _ _ (sym c.is_child.ensures ∙ w.if-is_child.false) c.loop-child.invariant)
    ]
