use Rattle.c_senses.specs.Sense.{sense_in}
use Rattle.c_results.specs.Standing.{senses_made}
use Rattle.c_meanings.proofs.Tests.{if_then}
use Rattle.c_meanings.proofs.meanings.named_by.Goals as goal

pub returns-then-earlier-clause-made : goal.returns-then-earlier-clause-made
returns-then-earlier-clause-made c = λ uses.
    let sense = sense_in (senses_made c.args.unit.now c.args.results.now) in
    if_then _ _ _ _ _ (c.in_ok-earlier.ensures.made uses) c.if-earlier.true (c.last_seen.ensures.last uses sense)
