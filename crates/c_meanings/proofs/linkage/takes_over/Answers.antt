use Rattle.c_senses.specs.Sense.{sense_in}
use Rattle.c_results.specs.Standing.{senses_made}
use Rattle.c_meanings.proofs.Tests.{and_then, and_else, or_then, or_else}
use Rattle.c_meanings.proofs.linkage.takes_over.Goals as goal

pub returns-then-has_storage : goal.returns-then-has_storage
returns-then-has_storage c = λ u uses. or_then _ _ _ (c.has_storage.ensures u) c.if-has_storage.true

pub returns-then-declares_function : goal.returns-then-declares_function
returns-then-declares_function c = λ u uses.
    let sense = sense_in (senses_made u c.args.results.now) in
    or_else _ _ _ _ (c.has_storage.ensures u) c.if-has_storage.false (and_then _ _ _ _ (c.declares_function.ensures uses sense) c.if-declares_function.true (c.is_without_storage.ensures u))

pub returns-else-declares_function : goal.returns-else-declares_function
returns-else-declares_function c = λ u uses.
    let sense = sense_in (senses_made u c.args.results.now) in
    or_else _ _ _ _ (c.has_storage.ensures u) c.if-has_storage.false (and_else _ _ _ (c.declares_function.ensures uses sense) c.if-declares_function.false)
