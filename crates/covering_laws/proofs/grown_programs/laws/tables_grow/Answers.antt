use Rattle.covering_laws.proofs.grown_programs.Tables.{tables_grow}
use Rattle.covering_laws.proofs.grown_programs.laws.tables_grow.Goals as goal

pub returns : goal.returns
returns c table more made named follow = tables_grow table more made named follow
