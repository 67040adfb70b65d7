use Rattle.std.proofs.Common.{sym, ◌∙◌}
use Rattle.expression_rows.proofs.c_rows.Inner.{one_in, two_in, more_in}
use Rattle.expression_rows.proofs.c_rows.lists.told_apart.Goals as goal

pub returns-then-count-eq1 : goal.returns-then-count-eq1
returns-then-count-eq1 c = λ parts n f e. sym (one_in parts c.args.a f (n ∙ c.if-count-eq1.true))

pub returns-then-count-eq2 : goal.returns-then-count-eq2
returns-then-count-eq2 c = λ parts n f e. sym (two_in parts c.args.a c.args.b f e (n ∙ c.if-count-eq2.true))

pub returns : goal.returns
returns c = λ parts n f e. sym (more_in parts (λ h. c.if-count-eq1.false (sym n ∙ h)) (λ h. c.if-count-eq2.false (sym n ∙ h)))
