use Rattle.std.proofs.Common.{false, ◌∙◌}
use Rattle.c_entities.specs.Words.{is_something}
use Rattle.c_entities.proofs.Reading.{functions_seen, functions_missing}
use Rattle.c_entities.proofs.words.has_function_words.Goals as goal

pub returns-in-Some : goal.returns-in-Some
returns-in-Some c = λ u w. c.is_something.ensures ∙ functions_seen is_something false _ _ (c.in-Some.ensures u)

pub returns-in-None : goal.returns-in-None
returns-in-None c = λ u w. functions_missing is_something false _ (c.in-None.ensures u)
