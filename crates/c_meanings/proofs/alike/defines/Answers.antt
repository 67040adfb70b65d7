use Rattle.std.proofs.Common.{[]}
use Rattle.c_meanings.proofs.Tests.{or_then, or_else}
use Rattle.c_meanings.proofs.alike.defines.Goals as goal

pub returns-then-is_defined : goal.returns-then-is_defined
returns-then-is_defined c = λ w sense. or_then _ _ _ (c.is_defined.ensures sense) c.if-is_defined.true

pub returns-else-is_defined : goal.returns-else-is_defined
returns-else-is_defined c = λ w sense. or_else _ _ _ _ (c.is_defined.ensures sense) c.if-is_defined.false (c.has_initialiser.ensures [] sense)
