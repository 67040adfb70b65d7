use Rattle.std.proofs.Common.{false, ◌∙◌}
use Rattle.c_grammar.specs.Terminals.{contains}
use Rattle.c_entities.proofs.Reading.{storage_seen, storage_missing}
use Rattle.c_entities.proofs.words.has_storage.Goals as goal

pub returns-in-Some : goal.returns-in-Some
returns-in-Some c = λ u. c.contains.ensures ∙ storage_seen (λ words. contains words c.args.word) false _ _ (c.in-Some.ensures u)

pub returns-in-None : goal.returns-in-None
returns-in-None c = λ u. storage_missing (λ words. contains words c.args.word) false _ (c.in-None.ensures u)
