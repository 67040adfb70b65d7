use Rattle.std.proofs.Common.{sym, ap, subst}
use Rattle.c_senses.specs.Sense.{Sense}
use Rattle.c_results.specs.Parts.{declarator_in, DeclaratorSeen}
use Rattle.name_places.proofs.names.declarator_of.Goals as goal

pub returns-in-Some-clause-seen : goal.returns-in-Some-clause-seen
returns-in-Some-clause-seen c = λ u. subst (λ (x : Sense). DeclaratorSeen u c.declarator_made.result (declarator_in x)) (c.in-Some.ensures.sense u) (c.declarator_made.ensures.seen u)

pub returns-in-Some-clause-named : goal.returns-in-Some-clause-named
returns-in-Some-clause-named c = λ n all. c.declarator_made.ensures.named n (c.in-Some.ensures.within n all)

pub returns-in-None-clause-seen : goal.returns-in-None-clause-seen
returns-in-None-clause-seen c = λ u. ap declarator_in (sym (c.in-None.ensures.sense u))
