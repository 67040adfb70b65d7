use Rattle.name_uses.proofs.Parts.{rows_part}
use Rattle.name_uses.proofs.laws.rows_are_part.Goals as goal

pub returns : goal.returns
returns c = rows_part
