use Rattle.std.proofs.Common.{sym, ap, subst}
use Rattle.c_entities.specs.Words.{storage_in, WordsSeen}
use Rattle.c_entities.proofs.words.storage_before.Goals as goal

pub returns-in-Some : goal.returns-in-Some
returns-in-Some c = λ u. subst (λ x. WordsSeen c.storage_made.result (storage_in x)) (c.in-Some.ensures u) (c.storage_made.ensures u)

pub returns-in-None : goal.returns-in-None
returns-in-None c = λ u. sym (ap storage_in (c.in-None.ensures u))
