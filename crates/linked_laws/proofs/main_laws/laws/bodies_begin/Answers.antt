use Rattle.linked_laws.proofs.main_laws.Objects.{body_begins}
use Rattle.linked_laws.proofs.main_laws.laws.bodies_begin.Goals as goal

pub returns : goal.returns
returns c = body_begins
