use Rattle.limit_laws.proofs.struct_laws.Members.{never_unbuilt}
use Rattle.limit_laws.proofs.struct_laws.laws.never_unbuilt.Goals as goal

pub returns : goal.returns
returns c = never_unbuilt
