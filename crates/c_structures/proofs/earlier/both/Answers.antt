use Rattle.c_structures.proofs.Preceding.{says_both}
use Rattle.c_structures.proofs.earlier.both.Goals as goal

pub returns : goal.returns
returns c = λ a b whole part. says_both _ a b whole part
