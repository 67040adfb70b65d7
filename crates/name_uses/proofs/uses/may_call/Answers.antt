use Rattle.std.proofs.Common.{not, ap}
use Rattle.name_uses.proofs.uses.may_call.Goals as goal

pub returns : goal.returns
returns c = λ u uses. ap not (c.is_in_static.ensures u)
