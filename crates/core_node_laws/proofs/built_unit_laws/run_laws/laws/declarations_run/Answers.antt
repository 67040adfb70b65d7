use Rattle.core_node_laws.proofs.built_unit_laws.run_laws.Running.{declarations_run}
use Rattle.core_node_laws.proofs.built_unit_laws.run_laws.laws.declarations_run.Goals as goal

pub returns : goal.returns
returns c = declarations_run
