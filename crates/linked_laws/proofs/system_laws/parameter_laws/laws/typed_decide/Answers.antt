use Rattle.linked_laws.proofs.system_laws.parameter_laws.Deciding.{typed_decide}
use Rattle.linked_laws.proofs.system_laws.parameter_laws.laws.typed_decide.Goals as goal

pub returns : goal.returns
returns c = λ p space system is_space of body values wholes. typed_decide p space is_space system of wholes body values
