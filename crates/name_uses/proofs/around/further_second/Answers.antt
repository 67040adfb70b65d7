use Rattle.std.proofs.Common.{None}
use Rattle.core_nodes.specs.Standing.{core_at}
use Rattle.c_senses.specs.Sense.{sense_in}
use Rattle.c_results.specs.Standing.{senses_made}
use Rattle.name_uses.proofs.Further.{names_by, names_none}
use Rattle.name_uses.proofs.around.further_second.Goals as goal

pub returns-in-Some : goal.returns-in-Some
returns-in-Some c = λ w uses is.
    let u = c.args.unit.now in
    names_by w c.further_at.result (sense_in (senses_made u c.args.results.now) c.args.second) (core_at u c.in-Some.node) (c.in-Some.ensures.seen u) (c.further_at.ensures w uses is)

pub returns-in-None : goal.returns-in-None
returns-in-None c = λ w uses is.
    let u = c.args.unit.now in
    names_none w None (sense_in (senses_made u c.args.results.now) c.args.second) (c.in-None.ensures.seen u)
