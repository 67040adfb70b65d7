use Rattle.std.proofs.Common.{refl}
use Rattle.c_meanings.proofs.Tests.{if_then, if_else}
use Rattle.c_meanings.proofs.storage.of_object.Goals as goal

pub returns-then-is_only_declared : goal.returns-then-is_only_declared
returns-then-is_only_declared c = λ u uses. if_then _ _ _ _ _ (c.is_only_declared.ensures u uses) c.if-is_only_declared.true refl

pub returns-then-is_static_object : goal.returns-then-is_static_object
returns-then-is_static_object c = λ u uses.
    if_else _ _ _ _ _ (c.is_only_declared.ensures u uses) c.if-is_only_declared.false (if_then _ _ _ _ _ (c.is_static_object.ensures u uses) c.if-is_static_object.true refl)

pub returns-else-is_static_object : goal.returns-else-is_static_object
returns-else-is_static_object c = λ u uses.
    if_else _ _ _ _ _ (c.is_only_declared.ensures u uses) c.if-is_only_declared.false (if_else _ _ _ _ _ (c.is_static_object.ensures u uses) c.if-is_static_object.false refl)
