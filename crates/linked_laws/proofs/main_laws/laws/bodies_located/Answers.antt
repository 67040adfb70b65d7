use Rattle.linked_laws.proofs.main_laws.Objects.{body_located}
use Rattle.linked_laws.proofs.main_laws.laws.bodies_located.Goals as goal

pub returns : goal.returns
returns c = body_located
