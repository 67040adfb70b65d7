use Rattle.std.proofs.Common.{ap}
use Rattle.c_senses.specs.Given.{Fits}
use Rattle.c_senses.specs.Sense.{sense_in}
use Rattle.core_nodes.specs.Standing.{core_at}
use Rattle.c_results.specs.Standing.{senses_made}
use Rattle.name_uses.proofs.Passing.{core_is}
use Rattle.name_uses.proofs.alone.again.Goals as goal

pub returns-in-Some-clause-row : goal.returns-in-Some-clause-row
returns-in-Some-clause-row c = λ u. ap Fits (core_is (sense_in (senses_made u c.args.results.now) c.args.part) (core_at u c.in-Some.node) (c.in-Some.ensures.seen u))

pub returns-in-Some-clause-within : goal.returns-in-Some-clause-within
returns-in-Some-clause-within c = λ u all. c.in-Some.ensures.within u all

pub returns-in-None-clause-row : goal.returns-in-None-clause-row
returns-in-None-clause-row c = c.passed_on.ensures.row

pub returns-in-None-clause-within : goal.returns-in-None-clause-within
returns-in-None-clause-within c = c.passed_on.ensures.within
