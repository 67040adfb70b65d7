use Rattle.core_node_laws.proofs.built_unit_laws.align_laws.Fitting.{asked_aligns_fit}
use Rattle.core_node_laws.proofs.built_unit_laws.align_laws.laws.asked_aligns_fit.Goals as goal

pub returns : goal.returns
returns c = asked_aligns_fit
