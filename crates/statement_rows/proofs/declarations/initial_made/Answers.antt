use Rattle.std.proofs.Common.{sym, ap, subst}
use Rattle.c_senses.specs.Sense.{Sense}
use Rattle.c_results.specs.Parts.{NodeSeen}
use Rattle.statement_rows.specs.Parts.{initial_in}
use Rattle.statement_rows.proofs.declarations.initial_made.Goals as goal

pub returns-in-Some-clause-seen : goal.returns-in-Some-clause-seen
returns-in-Some-clause-seen c = λ u. subst (λ (x : Sense). NodeSeen u c.initial_of.result (initial_in x)) (c.in-Some.ensures.sense u) (c.initial_of.ensures.seen u)

pub returns-in-Some-clause-within : goal.returns-in-Some-clause-within
returns-in-Some-clause-within c = λ u all. c.initial_of.ensures.within u (c.in-Some.ensures.within u all)

pub returns-in-None-clause-seen : goal.returns-in-None-clause-seen
returns-in-None-clause-seen c = λ u. sym (ap initial_in (c.in-None.ensures.sense u))
