use Rattle.normal_form.proofs.Demanding.{demanded}
use Rattle.normal_form.proofs.laws.each_demand.Goals as goal

pub returns : goal.returns
returns c = λ p s system k is. demanded p s system is k
