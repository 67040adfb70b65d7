use Rattle.limit_laws.proofs.struct_laws.Untaken.{untaken_only}
use Rattle.limit_laws.proofs.struct_laws.laws.only_untaken.Goals as goal

pub returns : goal.returns
returns c = untaken_only
