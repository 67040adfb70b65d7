use Rattle.c_lower.proofs.Faults.{none_unbuilt}
use Rattle.c_lower.proofs.unit_lowering.Ending.{lowered_once}
use Rattle.c_lower.proofs.lowering.lower_unit.Goals as goal

pub returns-clause-built : goal.returns-clause-built
returns-clause-built c = none_unbuilt _ _ _ c.lower.ensures

pub returns-clause-once : goal.returns-clause-once
returns-clause-once c = lowered_once _ _ _ c.lower.ensures
