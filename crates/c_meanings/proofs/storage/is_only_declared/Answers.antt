use Rattle.std.proofs.Common.{not, ap}
use Rattle.c_senses.specs.Sense.{sense_in}
use Rattle.c_results.specs.Standing.{senses_made}
use Rattle.c_meanings.proofs.Tests.{and_then, and_else}
use Rattle.c_meanings.proofs.storage.is_only_declared.Goals as goal

pub returns-then-has_storage : goal.returns-then-has_storage
returns-then-has_storage c = λ u uses.
    let sense = sense_in (senses_made u c.args.results.now) in
    and_then _ _ _ _ (c.has_storage.ensures u) c.if-has_storage.true (ap not (c.has_initialiser.ensures uses sense))

pub returns-else-has_storage : goal.returns-else-has_storage
returns-else-has_storage c = λ u uses. and_else _ _ _ (c.has_storage.ensures u) c.if-has_storage.false
