use Rattle.std.proofs.lemmas.Bool.{eqb-true}
use Rattle.mod_ref.proofs.Reaching.{reached_of_type}
use Rattle.mod_ref.proofs.inserting.leads_from.Goals as goal

pub returns-else-fact-clause-yes : goal.returns-else-fact-clause-yes
returns-else-fact-clause-yes c same node =
    reached_of_type c.args.system.now c.args.location c.args.ty node c.location_fact-fact.result c.location_fact-fact.ensures.value c.if-fact.false (eqb-true _ _ same)
