use Rattle.std.proofs.Common.{◌∙◌}
use Rattle.c_senses.specs.Sense.{sense_in}
use Rattle.c_results.specs.Standing.{senses_made}
use Rattle.c_structures.proofs.Gathering.{members_more, members_all}
use Rattle.c_structures.proofs.members.members_among.Goals as goal

pub loop-node-preserved : goal.loop-node-preserved
loop-node-preserved c = record {
  seen = λ u w s. members_more w s (sense_in (senses_made u c.args.results.now)) c.args.nodes.now c.loop-node.node-index _ _ c.loop-node-test.true (c.in_ok-add_members.ensures.seen u) ∙ c.loop-node.invariant.seen u w s;
  within = λ u all. c.in_ok-add_members.ensures.within u all (c.loop-node.invariant.within u all);
}

pub returns-clause-seen : goal.returns-clause-seen
returns-clause-seen c = λ u w s.
    members_all w s (sense_in (senses_made u c.args.results.now)) c.args.nodes.now c.loop-node.node-index _ c.loop-node-test.false (c.loop-node.invariant.seen u w s)
