use Rattle.c_senses.specs.Sense.{sense_in}
use Rattle.c_results.specs.Standing.{senses_made}
use Rattle.c_meanings.proofs.Tests.{or_then, or_else}
use Rattle.unit_names.proofs.choosing.only_declares.Goals as goal

pub returns-then-declares_function : goal.returns-then-declares_function
returns-then-declares_function c = λ u uses.
    let sense = sense_in (senses_made u c.args.results.now) in
    or_then _ _ _ (c.declares_function.ensures uses sense) c.if-declares_function.true

pub returns-else-declares_function : goal.returns-else-declares_function
returns-else-declares_function c = λ u uses.
    let sense = sense_in (senses_made u c.args.results.now) in
    or_else _ _ _ _ (c.declares_function.ensures uses sense) c.if-declares_function.false (c.has_storage.ensures u)
