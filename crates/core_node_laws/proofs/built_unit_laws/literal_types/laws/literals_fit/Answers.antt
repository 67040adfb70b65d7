use Rattle.core_node_laws.proofs.built_unit_laws.literal_types.Fitting.{literals_fit}
use Rattle.core_node_laws.proofs.built_unit_laws.literal_types.laws.literals_fit.Goals as goal

pub returns : goal.returns
returns c = literals_fit
