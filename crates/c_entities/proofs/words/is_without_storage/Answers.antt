use Rattle.std.proofs.Common.{true, ◌∙◌}
use Rattle.c_entities.specs.Words.{is_nothing}
use Rattle.c_entities.proofs.Reading.{storage_seen, storage_missing}
use Rattle.c_entities.proofs.words.is_without_storage.Goals as goal

pub returns-in-Some : goal.returns-in-Some
returns-in-Some c = λ u. c.is_nothing.ensures ∙ storage_seen is_nothing true _ _ (c.in-Some.ensures u)

pub returns-in-None : goal.returns-in-None
returns-in-None c = λ u. storage_missing is_nothing true _ (c.in-None.ensures u)
