use Rattle.std.proofs.Common.{refl}
use Rattle.c_senses.specs.Sense.{sense_in}
use Rattle.c_results.specs.Standing.{senses_made}
use Rattle.c_meanings.proofs.Tests.{if_then, if_else}
use Rattle.c_meanings.proofs.linkage.linkage_of.Goals as goal

pub returns-then-is_internal : goal.returns-then-is_internal
returns-then-is_internal c = λ u uses. if_then _ _ _ _ _ (c.is_internal.ensures u uses) c.if-is_internal.true refl

pub returns-then-is_linked : goal.returns-then-is_linked
returns-then-is_linked c = λ u uses.
    let sense = sense_in (senses_made u c.args.results.now) in
    if_else _ _ _ _ _ (c.is_internal.ensures u uses) c.if-is_internal.false (if_then _ _ _ _ _ (c.is_linked.ensures uses sense) c.if-is_linked.true refl)

pub returns-else-is_linked : goal.returns-else-is_linked
returns-else-is_linked c = λ u uses.
    let sense = sense_in (senses_made u c.args.results.now) in
    if_else _ _ _ _ _ (c.is_internal.ensures u uses) c.if-is_internal.false (if_else _ _ _ _ _ (c.is_linked.ensures uses sense) c.if-is_linked.false refl)
