use Rattle.std.proofs.Common.{refl}
use Rattle.c_senses.specs.Sense.{sense_in}
use Rattle.c_results.specs.Standing.{senses_made}
use Rattle.c_meanings.proofs.Tests.{if_then, if_else}
use Rattle.unit_names.proofs.declared.linkage_by.Goals as goal

pub returns-then-internal : goal.returns-then-internal
returns-then-internal c = λ u uses. if_then _ _ _ _ _ (c.requires.internal u uses) c.if-internal.true refl

pub returns-then-is_linked : goal.returns-then-is_linked
returns-then-is_linked c = λ u uses.
    let sense = sense_in (senses_made u c.args.results.now) in
    if_else _ _ _ _ _ (c.requires.internal u uses) c.if-internal.false (if_then _ _ _ _ _ (c.is_linked.ensures uses sense) c.if-is_linked.true refl)

pub returns-else-is_linked : goal.returns-else-is_linked
returns-else-is_linked c = λ u uses.
    let sense = sense_in (senses_made u c.args.results.now) in
    if_else _ _ _ _ _ (c.requires.internal u uses) c.if-internal.false (if_else _ _ _ _ _ (c.is_linked.ensures uses sense) c.if-is_linked.false refl)
