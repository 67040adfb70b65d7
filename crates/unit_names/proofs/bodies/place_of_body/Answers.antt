use Rattle.c_senses.specs.Sense.{sense_in}
use Rattle.c_meanings.proofs.Tests.{if_then, if_else}
use Rattle.unit_names.proofs.bodies.place_of_body.Goals as goal

pub returns-then-is_defined : goal.returns-then-is_defined
returns-then-is_defined c = λ uses senses. if_then _ _ _ _ _ (c.is_defined.ensures (sense_in senses)) c.if-is_defined.true (c.block_for.ensures uses senses)

pub returns-else-is_defined : goal.returns-else-is_defined
returns-else-is_defined c = λ uses senses. if_else _ _ _ _ _ (c.is_defined.ensures (sense_in senses)) c.if-is_defined.false (c.initialiser_for.ensures (sense_in senses))
