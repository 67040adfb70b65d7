use Rattle.valid_unit_laws.proofs.object_initialiser_laws.static_value_laws.static_literals.Whole.{literals_built}
use Rattle.valid_unit_laws.proofs.object_initialiser_laws.static_value_laws.static_literals.laws.literals_static.Goals as goal

pub returns : goal.returns
returns c = literals_built
