use Rattle.std.proofs.Common.{◌∙◌}
use Rattle.c_grammar.proofs.Meanings.{found_at}
use Rattle.c_mentions.proofs.symbols.first_of.Goals as goal

pub returns : goal.returns
returns c = c.copied.ensures ∙ (c.get.ensures.value ∙ found_at c.args.name.now c.args.firsts.now.entries)
