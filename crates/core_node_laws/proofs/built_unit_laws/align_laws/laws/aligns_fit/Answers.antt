use Rattle.core_node_laws.proofs.built_unit_laws.align_laws.Fitting.{aligns_fit}
use Rattle.core_node_laws.proofs.built_unit_laws.align_laws.laws.aligns_fit.Goals as goal

pub returns : goal.returns
returns c = aligns_fit
