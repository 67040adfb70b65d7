use Rattle.std.proofs.Common.{sym, ap, subst}
use Rattle.c_senses.specs.Sense.{Sense}
use Rattle.statement_rows.specs.Parts.{run_in_sense, RunSeen}
use Rattle.statement_rows.proofs.declarations.run_at.Goals as goal

pub returns-in-Some-clause-seen : goal.returns-in-Some-clause-seen
returns-in-Some-clause-seen c = λ u. subst (λ (x : Sense). RunSeen u c.run_of.result (run_in_sense x)) (c.in-Some.ensures.sense u) (c.run_of.ensures.seen u)

pub returns-in-Some-clause-within : goal.returns-in-Some-clause-within
returns-in-Some-clause-within c = λ u all. c.run_of.ensures.within u (c.in-Some.ensures.within u all)

pub returns-in-None-clause-seen : goal.returns-in-None-clause-seen
returns-in-None-clause-seen c = λ u. sym (ap run_in_sense (c.in-None.ensures.sense u))
