use Rattle.c_senses.specs.Sense.{sense_in}
use Rattle.c_results.specs.Standing.{senses_made}
use Rattle.c_statements.proofs.Choosing.{case_none}
use Rattle.c_statements.proofs.choices.case_made.Goals as goal

pub returns-in-None : goal.returns-in-None
returns-in-None c = λ w s.
    let sense = sense_in (senses_made c.args.unit.now c.args.results.now) in
    case_none w s sense (sense c.args.node) (c.in-None.ensures.seen c.args.unit.now)
