use Rattle.link_model.proofs.calling_laws.Calls.{calls_stand}
use Rattle.link_model.proofs.calling_laws.laws.calls_stand.Goals as goal

pub returns : goal.returns
returns c = λ u own n node at call. calls_stand u own n node at call
