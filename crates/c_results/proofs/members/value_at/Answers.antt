use Rattle.std.proofs.Common.{ap, ◌∙◌}
use Rattle.c_results.specs.Parts.{number_in}
use Rattle.c_results.proofs.members.value_at.Goals as goal

pub returns-in-Some : goal.returns-in-Some
returns-in-Some c = λ u. c.value.ensures u ∙ ap number_in (c.in-Some.ensures.sense u)

pub returns-in-None : goal.returns-in-None
returns-in-None c = λ u. ap number_in (c.in-None.ensures.sense u)
