use Rattle.std.proofs.Common.{refl}
use Rattle.c_meanings.proofs.Tests.{if_then, if_else}
use Rattle.c_meanings.proofs.linkage.internal_or.Goals as goal

pub returns-then-is_internal_after-clause-leaf : goal.returns-then-is_internal_after-clause-leaf
returns-then-is_internal_after-clause-leaf c = λ u uses. if_then _ _ _ _ _ (c.is_internal_after.ensures.internal u uses) c.if-is_internal_after.true refl

pub returns-else-is_internal_after-clause-leaf : goal.returns-else-is_internal_after-clause-leaf
returns-else-is_internal_after-clause-leaf c = λ u uses. if_else _ _ _ _ _ (c.is_internal_after.ensures.internal u uses) c.if-is_internal_after.false refl
