use Rattle.std.proofs.Common.{subst}
use Rattle.c_lexer.specs.States.{IsState}
use Rattle.c_lexer.proofs.lexer.take.Goals as goal

pub returns-in-None-clause-taken : goal.returns-in-None-clause-taken
returns-in-None-clause-taken c = λ ts i. c.take_plain.ensures.taken ts (subst (λ p. IsState c.args.text.now c.args.at ts p) c.in-None.is i)
