use Rattle.limit_laws.proofs.struct_laws.Words.{untaken_alone}
use Rattle.limit_laws.proofs.struct_laws.laws.untaken_alone.Goals as goal

pub returns : goal.returns
returns c = untaken_alone
