use Rattle.std.proofs.Common.{subst}
use Rattle.c_lexer.specs.States.{IsState}
use Rattle.c_lexer.proofs.Steps.{barred_fault, pending_starved, no_good}
use Rattle.c_lexer.proofs.lexer.first_fault.Goals as goal

pub returns-in-None : goal.returns-in-None
returns-in-None c = λ ts i. barred_fault c.args.text.now c.args.at ts c.args.fault c.requires.short c.requires.barred (subst (λ p. IsState c.args.text.now c.args.at ts p) c.in-None.is i)

pub returns-in-Some : goal.returns-in-Some
returns-in-Some c = λ ts i. pending_starved c.args.text.now c.args.at ts c.in-Some.attribute c.requires.short (no_good c.args.text.now c.args.at c.args.fault c.requires.barred) (subst (λ p. IsState c.args.text.now c.args.at ts p) c.in-Some.is i)
