use Rattle.linked_laws.proofs.system_laws.parameter_laws.Fitting.{parameters_fit}
use Rattle.linked_laws.proofs.system_laws.parameter_laws.laws.parameters_fit.Goals as goal

pub returns : goal.returns
returns c = parameters_fit
