use Rattle.std.proofs.lemmas.Result.{IfOk-weaker}
use Rattle.c_senses.specs.Sense.{sense_in}
use Rattle.c_results.specs.Standing.{senses_made}
use Rattle.c_meanings.proofs.Tests.{if_then, if_else}
use Rattle.c_meanings.proofs.meanings.looked_up.Goals as goal

pub returns-then-is_typedef-clause-made : goal.returns-then-is_typedef-clause-made
returns-then-is_typedef-clause-made c =
    let sense = sense_in (senses_made c.args.unit.now c.args.results.now) in
    IfOk-weaker c.type_named.result _ _ (λ m h uses. if_then _ _ _ _ _ (c.is_typedef.ensures uses sense) c.if-is_typedef.true (h uses)) c.type_named.ensures.made

pub returns-else-is_typedef-clause-made : goal.returns-else-is_typedef-clause-made
returns-else-is_typedef-clause-made c =
    let sense = sense_in (senses_made c.args.unit.now c.args.results.now) in
    IfOk-weaker c.entity_named.result _ _ (λ m h uses. if_else _ _ _ _ _ (c.is_typedef.ensures uses sense) c.if-is_typedef.false (h uses)) c.entity_named.ensures.made
