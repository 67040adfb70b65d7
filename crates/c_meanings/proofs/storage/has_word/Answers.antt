use Rattle.c_meanings.proofs.Tests.{or_then, or_else}
use Rattle.c_meanings.proofs.storage.has_word.Goals as goal

pub returns-then-has_storage : goal.returns-then-has_storage
returns-then-has_storage c = λ u uses. or_then _ _ _ (c.has_storage.ensures u) c.if-has_storage.true

pub returns-else-has_storage : goal.returns-else-has_storage
returns-else-has_storage c = λ u uses. or_else _ _ _ _ (c.has_storage.ensures u) c.if-has_storage.false (c.has_storage-else-has_storage.ensures u)
