use Rattle.std.proofs.Common.{arith, length, ◌<◌}
use Rattle.c_grammar.specs.Productions.{p_block}
use Rattle.c_senses.specs.Tree.{is_a}
use Rattle.tree_reads.specs.Sources.{source_read}
use Rattle.tree_reads.proofs.Marks.{above_more}
use Rattle.c_initials.proofs.storage.block_above.Goals as goal

pub loop-step-preserved : goal.loop-step-preserved
loop-step-preserved c =
    let s = source_read c.args.syntax.now in
    let more : c.loop-step._step < length c.args.syntax.now.tree.now.nodes.items = omega (arith, c.len-step-end.ensures) in
    record {
      within = c.parent_of-next-in-loop-step.ensures.within;
      rest = above_more s (is_a s p_block) (length c.args.syntax.now.tree.now.nodes.items) c.loop-step._step c.in-Some.parent c.loop-step.next c.parent_of-next-in-loop-step.result _ more c.in-Some.is c.if-is_a.ensures c.parent_of-next-in-loop-step.ensures.parent c.loop-step.invariant.rest;
    }
