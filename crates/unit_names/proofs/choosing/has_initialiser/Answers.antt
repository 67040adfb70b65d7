use Rattle.std.proofs.Common.{is_some, ap}
use Rattle.unit_names.proofs.choosing.has_initialiser.Goals as goal

pub returns-in-Some : goal.returns-in-Some
returns-in-Some c = λ uses sense. ap is_some (c.in-Some.ensures sense)

pub returns-in-None : goal.returns-in-None
returns-in-None c = λ uses sense. ap is_some (c.in-None.ensures sense)
