use Rattle.declaration_laws.proofs.declared_type_laws.owner_laws.left_laws.Left.{lefts_stand}
use Rattle.declaration_laws.proofs.declared_type_laws.owner_laws.left_laws.laws.lefts_stand.Goals as goal

pub returns : goal.returns
returns c = lefts_stand
