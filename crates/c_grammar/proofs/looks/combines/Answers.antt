use Rattle.c_grammar.specs.Fits.{combines, type_words}
use Rattle.c_grammar.proofs.looks.combines.Goals as goal

pub returns : goal.returns
unfolding combines type_words
returns c = c.any_has_room.ensures
