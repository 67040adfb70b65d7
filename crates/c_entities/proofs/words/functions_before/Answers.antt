use Rattle.std.proofs.Common.{sym, ap, subst}
use Rattle.c_entities.specs.Words.{functions_in, WordsSeen}
use Rattle.c_entities.proofs.words.functions_before.Goals as goal

pub returns-in-Some : goal.returns-in-Some
returns-in-Some c = λ u. subst (λ x. WordsSeen c.functions_made.result (functions_in x)) (c.in-Some.ensures u) (c.functions_made.ensures u)

pub returns-in-None : goal.returns-in-None
returns-in-None c = λ u. sym (ap functions_in (c.in-None.ensures u))
