use Rattle.ref_machine.proofs.WordFree.{step_same}
use Rattle.ref_machine.proofs.laws.word_is_free.Goals as goal

pub returns : goal.returns
returns c = step_same
