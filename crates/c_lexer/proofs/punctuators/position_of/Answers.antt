use Rattle.std.proofs.Common.{◌∙◌}
use Rattle.c_lexer.proofs.Tables.{position_is}
use Rattle.c_lexer.proofs.punctuators.position_of.Goals as goal

pub returns : goal.returns
returns c = c.position_in.ensures ∙ position_is c.args.number c.requires
