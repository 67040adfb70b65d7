use Rattle.c_lexer.specs.Cut.{byte, quote}
use Rattle.c_lexer.proofs.lexer.stop_fault.Goals as goal

pub returns-then-is_quote : goal.returns-then-is_quote
returns-then-is_quote c = quote c.requires.stops (c.is_quote.ensures.yes c.if-is_quote.true)

pub returns : goal.returns
returns c = byte c.requires.stops (c.is_quote.ensures.no c.if-is_quote.false)
