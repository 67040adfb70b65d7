use Rattle.std.proofs.Common.{sym, ap, subst}
use Rattle.core_nodes.specs.passed.c_senses.Sense.{Sense}
use Rattle.c_results.specs.Parts.{parts_in, MembersSeen}
use Rattle.c_results.proofs.members.members_at.Goals as goal

pub returns-in-Some-clause-seen : goal.returns-in-Some-clause-seen
returns-in-Some-clause-seen c = λ u. subst (λ (x : Sense). MembersSeen u c.members.result (parts_in x)) (c.in-Some.ensures.sense u) (c.members.ensures.seen u)

pub returns-in-Some-clause-within : goal.returns-in-Some-clause-within
returns-in-Some-clause-within c = λ u all. c.members.ensures.within u (c.in-Some.ensures.within u all)

pub returns-in-None-clause-seen : goal.returns-in-None-clause-seen
returns-in-None-clause-seen c = λ u. ap parts_in (sym (c.in-None.ensures.sense u))
