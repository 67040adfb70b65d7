use Rattle.sense_cases.proofs.right_cases.Locals.{right}
use Rattle.sense_cases.proofs.right_cases.laws.locals.Goals as goal

pub returns : goal.returns
returns c = λ called parts has. right called parts has
