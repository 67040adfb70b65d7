use Rattle.std.proofs.Common.{sym, ◌∙◌}
use Rattle.c_lexer.specs.Pieces.{piece_of}
use Rattle.c_lexer.proofs.Steps.{reach_nothing, reach_token, pending_first}
use Rattle.c_lexer.proofs.lexer.take_plain.Goals as goal

pub returns-in-Nothing-clause-taken : goal.returns-in-Nothing-clause-taken
returns-in-Nothing-clause-taken c = λ ts r. reach_nothing c.args.text.now (piece_of c.args.at c.args.found) ts c.requires.good (sym c.meaning_of.ensures ∙ c.in-Nothing.is) r

pub returns-in-Attribute-clause-taken : goal.returns-in-Attribute-clause-taken
returns-in-Attribute-clause-taken c = λ ts r. pending_first c.args.text.now (piece_of c.args.at c.args.found) ts c.requires.good (sym c.meaning_of.ensures ∙ c.in-Attribute.is) r

pub returns-in-Token-clause-taken : goal.returns-in-Token-clause-taken
returns-in-Token-clause-taken c = λ ts r. reach_token c.args.text.now (piece_of c.args.at c.args.found) c.in-Token.kind ts c.requires.good (sym c.meaning_of.ensures ∙ c.in-Token.is) r
