use Rattle.std.proofs.Common.{refl}
use Rattle.c_lexer.specs.Cut.{flaw}
use Rattle.c_lexer.specs.Pieces.{piece_of}
use Rattle.c_lexer.proofs.lexer.good_piece.Goals as goal

pub returns-in-Some-flaw : goal.returns-in-Some-flaw
returns-in-Some-flaw c = flaw (piece_of c.args.at c.in-Some.found) c.in-Some-flaw.fault refl c.in-Some.ensures c.in-Some-flaw.ensures
