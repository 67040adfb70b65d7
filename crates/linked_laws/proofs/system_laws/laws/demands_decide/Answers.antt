use Rattle.linked_laws.proofs.system_laws.Whole.{decided}
use Rattle.linked_laws.proofs.system_laws.laws.demands_decide.Goals as goal

pub returns : goal.returns
returns c = λ p space system is_space is body values. decided p space is_space system is body values
