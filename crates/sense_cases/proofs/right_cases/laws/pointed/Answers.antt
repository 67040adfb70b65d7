use Rattle.sense_cases.proofs.right_cases.Pointed.{right}
use Rattle.sense_cases.proofs.right_cases.laws.pointed.Goals as goal

pub returns : goal.returns
returns c = λ called v parts. right called v parts
