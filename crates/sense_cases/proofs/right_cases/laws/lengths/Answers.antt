use Rattle.sense_cases.proofs.right_cases.Lengths.{right}
use Rattle.sense_cases.proofs.right_cases.laws.lengths.Goals as goal

pub returns : goal.returns
returns c = λ called v parts. right called v parts
