use Rattle.c_lexer.proofs.Lines.{place_feed, place_same}
use Rattle.c_lexer.proofs.places.place_after.Goals as goal

pub returns-then-byte-eq10 : goal.returns-then-byte-eq10
returns-then-byte-eq10 c = place_feed c.args.text.now c.args.at c.args.place c.if-byte-eq10.true c.requires.stands

pub returns : goal.returns
returns c = place_same c.args.text.now c.args.at c.args.place _ c.if-byte-eq10.false c.stays_blank.ensures c.requires.stands
