use Rattle.c_lexer.proofs.Lines.{place_first}
use Rattle.c_lexer.proofs.places.first_place.Goals as goal

pub returns : goal.returns
returns c = place_first
