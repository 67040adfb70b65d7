use Rattle.c_initials.proofs.ValueLaws.{rows_seen}
use Rattle.c_initials.proofs.values.expression_of.Goals as goal

pub returns-in-Some-clause-rows : goal.returns-in-Some-clause-rows
returns-in-Some-clause-rows c = λ u all. rows_seen u c.args.results.now c.in-Some.child c.node_at.result all (c.node_at.ensures.seen u)
