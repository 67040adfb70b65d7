use Rattle.std.proofs.Common.{arith, length, ◌<◌}
use Rattle.tree_reads.specs.Sources.{source_read}
use Rattle.tree_reads.proofs.Marks.{above_more}
use Rattle.statement_rows.specs.Parts.{is_definition}
use Rattle.statement_rows.proofs.returned.definition_around.Goals as goal

pub loop-step-preserved : goal.loop-step-preserved
loop-step-preserved c =
    let s = source_read c.args.syntax.now in
    let more : c.loop-step._step < length c.args.syntax.now.tree.now.nodes.items = omega (arith, c.len-step-end.ensures) in
    record {
      within = c.parent_of-next-in-loop-step.ensures.within;
      rest = above_more s (is_definition s) (length c.args.syntax.now.tree.now.nodes.items) c.loop-step._step c.in-Some.parent c.loop-step.next c.parent_of-next-in-loop-step.result _ more c.in-Some.is c.if-is_definition.ensures c.parent_of-next-in-loop-step.ensures.parent c.loop-step.invariant.rest;
    }
