use Rattle.std.proofs.Common.{◌∙◌, ap}
use Rattle.std.specs.Prelude.{is_some}
use Rattle.c_grammar.proofs.Meanings.{found_at}
use Rattle.unit_keys.proofs.words.has_word.Goals as goal

pub returns : goal.returns
returns c = c.is_some.ensures ∙ ap is_some (c.copied.ensures ∙ (c.get.ensures.value ∙ found_at c.args.word.now c.args.words.now.entries))
