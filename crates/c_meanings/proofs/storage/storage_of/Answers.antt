use Rattle.std.proofs.Common.{refl}
use Rattle.c_senses.specs.Sense.{sense_in}
use Rattle.c_results.specs.Standing.{senses_made}
use Rattle.c_meanings.proofs.Tests.{if_then, if_else}
use Rattle.c_meanings.proofs.storage.storage_of.Goals as goal

pub returns-then-is_parameter : goal.returns-then-is_parameter
returns-then-is_parameter c = λ u uses.
    let sense = sense_in (senses_made u c.args.results.now) in
    if_then _ _ _ _ _ (c.is_parameter.ensures sense) c.if-is_parameter.true refl

pub returns-then-declares_function : goal.returns-then-declares_function
returns-then-declares_function c = λ u uses.
    let sense = sense_in (senses_made u c.args.results.now) in
    if_else _ _ _ _ _ (c.is_parameter.ensures sense) c.if-is_parameter.false
    (if_then _ _ _ _ _ (c.declares_function.ensures uses sense) c.if-declares_function.true (c.of_function.ensures uses sense))

pub returns-else-declares_function : goal.returns-else-declares_function
returns-else-declares_function c = λ u uses.
    let sense = sense_in (senses_made u c.args.results.now) in
    if_else _ _ _ _ _ (c.is_parameter.ensures sense) c.if-is_parameter.false
    (if_else _ _ _ _ _ (c.declares_function.ensures uses sense) c.if-declares_function.false (c.of_object.ensures u uses))
