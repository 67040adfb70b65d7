use Rattle.std.proofs.Common.{ap, ◌∙◌}
use Rattle.name_places.specs.Named.{name_within}
use Rattle.name_places.proofs.names.declared_name.Goals as goal

pub returns-in-Some-clause-name : goal.returns-in-Some-clause-name
returns-in-Some-clause-name c = λ u. c.name_made.ensures.name u ∙ ap name_within (c.in-Some.ensures.sense u)

pub returns-in-Some-clause-within : goal.returns-in-Some-clause-within
returns-in-Some-clause-within c = λ n all. c.name_made.ensures.within n (c.in-Some.ensures.within n all)

pub returns-in-None-clause-name : goal.returns-in-None-clause-name
returns-in-None-clause-name c = λ u. ap name_within (c.in-None.ensures.sense u)
