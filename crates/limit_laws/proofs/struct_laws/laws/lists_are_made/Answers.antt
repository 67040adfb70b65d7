use Rattle.limit_laws.proofs.struct_laws.Lists.{lists_made}
use Rattle.limit_laws.proofs.struct_laws.laws.lists_are_made.Goals as goal

pub returns : goal.returns
returns c = lists_made
