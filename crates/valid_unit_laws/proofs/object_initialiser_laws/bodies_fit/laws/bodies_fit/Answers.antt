use Rattle.valid_unit_laws.proofs.object_initialiser_laws.bodies_fit.Fitting.{bodies_fit}
use Rattle.valid_unit_laws.proofs.object_initialiser_laws.bodies_fit.laws.bodies_fit.Goals as goal

pub returns : goal.returns
returns c = bodies_fit
