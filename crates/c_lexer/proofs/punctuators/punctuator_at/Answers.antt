use Rattle.c_lexer.proofs.Tables.{not_before}
use Rattle.c_lexer.proofs.punctuators.punctuator_at.Goals as goal

pub loop-k-init : goal.loop-k-init
loop-k-init c = not_before c.args.text.now c.args.from c.start_of-k.result c.start_of-k.ensures.within c.start_of-k.ensures.first
