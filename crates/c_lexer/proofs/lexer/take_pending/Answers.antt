use Rattle.std.proofs.Common.{sym, ◌∙◌}
use Rattle.c_lexer.specs.Pieces.{piece_of}
use Rattle.c_lexer.proofs.Steps.{pending_next, pending_closed, pending_broken}
use Rattle.c_lexer.proofs.lexer.take_pending.Goals as goal

pub returns-then-is_met-clause-taken : goal.returns-then-is_met-clause-taken
returns-then-is_met-clause-taken c = λ ts i. pending_closed c.args.text.now (piece_of c.args.at c.args.found) ts c.args.pending c.in-Some.need c.requires.good (sym c.need_after.ensures ∙ c.in-Some.is) (c.is_met.ensures.yes c.if-is_met.true) i

pub returns-in-None-clause-taken : goal.returns-in-None-clause-taken
returns-in-None-clause-taken c = λ ts i. pending_broken c.args.text.now (piece_of c.args.at c.args.found) ts c.args.pending c.requires.short c.requires.good (sym c.need_after.ensures ∙ c.in-None.is) i

pub returns-else-is_met-clause-taken : goal.returns-else-is_met-clause-taken
returns-else-is_met-clause-taken c = λ ts i. pending_next c.args.text.now (piece_of c.args.at c.args.found) ts c.args.pending c.in-Some.need c.requires.good (sym c.need_after.ensures ∙ c.in-Some.is) (c.is_met.ensures.no c.if-is_met.false) i
