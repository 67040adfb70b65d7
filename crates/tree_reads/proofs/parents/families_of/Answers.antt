use Rattle.std.proofs.Common.{arith, ◌∙◌, ◌<◌, length}
use Rattle.tree_reads.proofs.Ascending.{more_ascend}
use Rattle.tree_reads.proofs.Marks.{asked_more, marked_here}
use Rattle.tree_reads.proofs.parents.families_of.Goals as goal

pub loop-i-preserved : goal.loop-i-preserved
loop-i-preserved c = record {
  long = c.mark.ensures.long ∙ c.loop-i.invariant.long;
  each = λ k h.
      let within : k < length c.loop-i.parents.items = omega (arith, c.loop-i.invariant.long) in
      asked_more c.args.nodes.now k c.loop-i.i _ _ c.loop-i-test.true (marked_here c.args.nodes.now c.index-nodes-i.result c.as_slice-children.result.now c.loop-i.i k _ _ c.loop-i-test.true c.index-nodes-i.is c.as_slice-children.ensures.value (c.mark.ensures.each k within))
      ∙ c.loop-i.invariant.each k h;
  ascending = more_ascend c.args.nodes.now c.index-nodes-i.result c.loop-i.i c.loop-i.ordered c.stays_ordered-ordered.result c.as_slice-children.result.now c.loop-i-test.true c.index-nodes-i.is c.as_slice-children.ensures.value c.loop-i.invariant.ascending c.stays_ordered-ordered.ensures;
}
