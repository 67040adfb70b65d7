use Rattle.std.proofs.Common.{arith, ◌<◌, ◌≤◌, ℕ, List, ◌++◌, length, ap, ◌∙◌}
use Rattle.c_senses.specs.Sense.{sense_in}
use Rattle.c_results.specs.Standing.{senses_made}
use Rattle.tree_reads.specs.Sources.{source_in}
use Rattle.c_statements.proofs.Gathering.{gathered_more, gathered_all}
use Rattle.statement_rows.specs.Parts.{object_at}
use Rattle.statement_rows.proofs.Placing.{among_gathered}
use Rattle.statement_rows.proofs.objects.add_among.Goals as goal

pub loop-node-preserved : goal.loop-node-preserved
loop-node-preserved c = λ u w uses.
    let f = object_at w (source_in c.args.syntax.now uses) (sense_in (senses_made u c.args.results.now)) in
    let more : c.loop-node.node-index < length c.args.nodes.now = omega arith in
    gathered_more f c.args.nodes.now c.loop-node.node-index c.args.list.now.items c.loop-node.list.items c.add_object.new.list.items more (c.in_ok-add_object.ensures.added u w uses) (c.loop-node.invariant u w uses)

pub returns-clause-added : goal.returns-clause-added
returns-clause-added c = λ u w uses.
    let s = source_in c.args.syntax.now uses in
    let sense = sense_in (senses_made u c.args.results.now) in
    let all : length c.args.nodes.now ≤ c.loop-node.node-index = omega arith in
    gathered_all (object_at w s sense) c.args.nodes.now c.loop-node.node-index c.loop-node.list.items c.args.list.now.items all (c.loop-node.invariant u w uses)
    ∙ ap (λ (l : List ℕ). c.args.list.now.items ++ l) (among_gathered w s sense c.args.nodes.now)
