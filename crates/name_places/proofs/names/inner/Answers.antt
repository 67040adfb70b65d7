use Rattle.c_senses.specs.Sense.{sense_in}
use Rattle.c_results.specs.Standing.{senses_made}
use Rattle.c_entities.proofs.PassedOn.{declarator_found, declarator_passed, declarator_none}
use Rattle.name_places.proofs.names.inner.Goals as goal

pub returns-in-Some-clause-seen : goal.returns-in-Some-clause-seen
returns-in-Some-clause-seen c = λ u.
    declarator_found (sense_in (senses_made u c.args.results.now)) c.args.list.now c.loop-node.node-index _ c.loop-node-test.true (c.loop-node.invariant u) (c.in-Some.ensures.seen u)

pub loop-node-preserved : goal.loop-node-preserved
loop-node-preserved c = λ u.
    declarator_passed (sense_in (senses_made u c.args.results.now)) c.args.list.now c.loop-node.node-index c.loop-node-test.true (c.loop-node.invariant u) (c.in_default.ensures.seen u)

pub returns-clause-seen : goal.returns-clause-seen
returns-clause-seen c = λ u.
    declarator_none (sense_in (senses_made u c.args.results.now)) c.args.list.now c.loop-node.node-index c.loop-node-test.false (c.loop-node.invariant u)
