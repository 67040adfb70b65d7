use Rattle.std.proofs.Common.{arith, ◌<◌, ◌≤◌, [], length, ◌∙◌}
use Rattle.c_senses.specs.Sense.{sense_in}
use Rattle.c_results.specs.Standing.{senses_made}
use Rattle.tree_reads.specs.Sources.{source_in}
use Rattle.c_statements.proofs.Gathering.{gathered_more, gathered_all}
use Rattle.statement_rows.specs.Parts.{objects_at}
use Rattle.statement_rows.proofs.Placing.{objects_gathered}
use Rattle.statement_rows.proofs.objects.objects_in.Goals as goal

pub loop-part-preserved : goal.loop-part-preserved
loop-part-preserved c = λ u w uses.
    let f = objects_at w (source_in c.args.syntax.now uses) (sense_in (senses_made u c.args.results.now)) in
    let more : c.loop-part.part-index < length c.args.children.now = omega arith in
    gathered_more f c.args.children.now c.loop-part.part-index [] c.loop-part.list.items c.add_part.new.list.items more (c.in_ok-add_part.ensures.added u w uses) (c.loop-part.invariant u w uses)

pub returns-clause-objects : goal.returns-clause-objects
returns-clause-objects c = λ u w uses.
    let s = source_in c.args.syntax.now uses in
    let sense = sense_in (senses_made u c.args.results.now) in
    let all : length c.args.children.now ≤ c.loop-part.part-index = omega arith in
    gathered_all (objects_at w s sense) c.args.children.now c.loop-part.part-index c.loop-part.list.items [] all (c.loop-part.invariant u w uses) ∙ objects_gathered w s sense c.args.children.now
