use Rattle.std.proofs.Common.{arith, ◌≡◌, length}
use Rattle.c_senses.specs.Sense.{sense_in}
use Rattle.c_results.specs.Standing.{senses_made}
use Rattle.tree_reads.specs.Sources.{source_in}
use Rattle.unit_keys.proofs.Noting.{noted_none, noted_all}
use Rattle.unit_keys.proofs.positions.positions_of.Goals as goal

pub loop-node-init : goal.loop-node-init
loop-node-init c = λ u uses roles. noted_none (source_in c.args.syntax.now uses) (sense_in (senses_made u c.args.results.now)) c.new-positions.result c.new-positions.ensures

pub loop-node-preserved : goal.loop-node-preserved
loop-node-preserved c = λ u uses roles. c.in_ok-note_member.ensures u uses roles (c.loop-node.invariant u uses roles)

pub returns : goal.returns
returns c = λ u uses roles.
    let all : c.loop-node.node ≡ length c.args.syntax.now.tree.now.nodes.items = omega arith in
    noted_all (source_in c.args.syntax.now uses) (sense_in (senses_made u c.args.results.now)) c.loop-node.positions c.loop-node.node all (c.loop-node.invariant u uses roles)
