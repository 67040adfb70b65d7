use Rattle.c_lower.proofs.OneAnswer.{one_answer}
use Rattle.c_lower.proofs.laws.one_answer.Goals as goal

pub returns : goal.returns
returns c = one_answer
