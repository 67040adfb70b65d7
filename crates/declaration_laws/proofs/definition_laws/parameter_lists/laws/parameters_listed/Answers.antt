use Rattle.declaration_laws.proofs.definition_laws.parameter_lists.Whole.{parameters_listed}
use Rattle.declaration_laws.proofs.definition_laws.parameter_lists.laws.parameters_listed.Goals as goal

pub returns : goal.returns
returns c = parameters_listed
