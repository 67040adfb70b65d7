use Rattle.std.proofs.Common.{refl}
use Rattle.c_meanings.proofs.Tests.{if_then, if_else}
use Rattle.c_meanings.proofs.storage.of_function.Goals as goal

pub returns-then-is_defined : goal.returns-then-is_defined
returns-then-is_defined c = λ uses sense. if_then _ _ _ _ _ (c.is_defined.ensures sense) c.if-is_defined.true refl

pub returns-else-is_defined : goal.returns-else-is_defined
returns-else-is_defined c = λ uses sense. if_else _ _ _ _ _ (c.is_defined.ensures sense) c.if-is_defined.false refl
