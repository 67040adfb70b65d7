use Rattle.c_meanings.proofs.Tests.{and_then, and_else}
use Rattle.unit_names.proofs.declared.may_declare.Goals as goal

pub returns-then-is_declaring : goal.returns-then-is_declaring
returns-then-is_declaring c = λ u uses. and_then _ _ _ _ (c.is_declaring.ensures u uses) c.if-is_declaring.true (c.is_declared_there.ensures u uses)

pub returns-else-is_declaring : goal.returns-else-is_declaring
returns-else-is_declaring c = λ u uses. and_else _ _ _ (c.is_declaring.ensures u uses) c.if-is_declaring.false
