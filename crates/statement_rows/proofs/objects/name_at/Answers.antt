use Rattle.std.proofs.Common.{ap, ◌∙◌}
use Rattle.statement_rows.specs.Parts.{name_in}
use Rattle.statement_rows.proofs.objects.name_at.Goals as goal

pub returns-in-Some : goal.returns-in-Some
returns-in-Some c = λ u. c.name_of.ensures u ∙ ap name_in (c.in-Some.ensures.sense u)

pub returns-in-None : goal.returns-in-None
returns-in-None c = λ u. ap name_in (c.in-None.ensures.sense u)
