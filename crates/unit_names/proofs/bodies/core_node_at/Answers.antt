use Rattle.std.proofs.Common.{ap}
use Rattle.unit_names.specs.Bodies.{core_of}
use Rattle.unit_names.proofs.bodies.core_node_at.Goals as goal

pub returns-in-Some-clause-within : goal.returns-in-Some-clause-within
returns-in-Some-clause-within c = λ u all. c.core_node.ensures.within u (c.in-Some.ensures.within u all)

pub returns-in-None-clause-seen : goal.returns-in-None-clause-seen
returns-in-None-clause-seen c = λ u. ap core_of (c.in-None.ensures.sense u)
