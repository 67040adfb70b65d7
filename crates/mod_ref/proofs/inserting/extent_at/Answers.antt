use Rattle.mod_ref.proofs.Reaching.{extent_within}
use Rattle.mod_ref.proofs.inserting.extent_at.Goals as goal

pub returns-else-fact-clause-within : goal.returns-else-fact-clause-within
returns-else-fact-clause-within c =
    extent_within c.args.system.now c.args.location _ c.location_fact-fact.result c.requires.valid c.location_fact-fact.ensures.value c.if-fact.false c.nodes_of.ensures
