use Rattle.limit_laws.proofs.struct_laws.Words.{no_other_keyword}
use Rattle.limit_laws.proofs.struct_laws.laws.no_other_keyword.Goals as goal

pub returns : goal.returns
returns c = no_other_keyword
