use Rattle.std.proofs.Common.{false, ◌∙◌}
use Rattle.c_grammar.specs.Terminals.{contains}
use Rattle.c_entities.proofs.Reading.{functions_seen, functions_missing}
use Rattle.c_entities.proofs.words.has_function_word.Goals as goal

pub returns-in-Some : goal.returns-in-Some
returns-in-Some c = λ u. c.contains.ensures ∙ functions_seen (λ words. contains words c.args.word) false _ _ (c.in-Some.ensures u)

pub returns-in-None : goal.returns-in-None
returns-in-None c = λ u. functions_missing (λ words. contains words c.args.word) false _ (c.in-None.ensures u)
