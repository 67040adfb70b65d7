use Rattle.linked_laws.proofs.row_laws.Whole.{linked_in_rows}
use Rattle.linked_laws.proofs.row_laws.laws.linked_in_rows.Goals as goal

pub returns : goal.returns
returns c = λ names. linked_in_rows {names = names}
