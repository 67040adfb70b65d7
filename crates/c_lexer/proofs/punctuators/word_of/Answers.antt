use Rattle.std.proofs.Common.{◌∙◌}
use Rattle.c_lexer.proofs.Tables.{word_is}
use Rattle.c_lexer.proofs.punctuators.word_of.Goals as goal

pub returns : goal.returns
returns c = c.word_in.ensures ∙ word_is c.args.number c.requires
