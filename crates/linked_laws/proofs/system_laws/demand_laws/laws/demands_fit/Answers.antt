use Rattle.linked_laws.proofs.system_laws.demand_laws.Demands.{demands_fit}
use Rattle.linked_laws.proofs.system_laws.demand_laws.laws.demands_fit.Goals as goal

pub returns : goal.returns
returns c = demands_fit
