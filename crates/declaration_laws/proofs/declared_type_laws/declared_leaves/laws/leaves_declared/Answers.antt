use Rattle.declaration_laws.proofs.declared_type_laws.declared_leaves.Climbing.{leaves_declared}
use Rattle.declaration_laws.proofs.declared_type_laws.declared_leaves.laws.leaves_declared.Goals as goal

pub returns : goal.returns
returns c = leaves_declared
