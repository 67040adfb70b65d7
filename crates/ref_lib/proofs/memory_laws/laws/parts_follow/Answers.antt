use Rattle.ref_lib.proofs.memory_laws.Copies.{parts_follow}
use Rattle.ref_lib.proofs.memory_laws.laws.parts_follow.Goals as goal

pub returns : goal.returns
returns c = parts_follow
