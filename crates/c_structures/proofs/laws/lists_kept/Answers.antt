use Rattle.c_structures.proofs.Opening.{lists_more}
use Rattle.c_structures.proofs.laws.lists_kept.Goals as goal

pub returns : goal.returns
returns c = lists_more
