use Rattle.c_lexer.proofs.Longest.{run_is_piece}
use Rattle.c_lexer.proofs.pieces.run_piece.Goals as goal

pub returns : goal.returns
returns c = run_is_piece c.args.run c.args.text.now c.args.from c.run_end.result c.run_end.ensures.within c.requires.begins c.requires.plain c.run_end.ensures.each c.run_end.ensures.stops
