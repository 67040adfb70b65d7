use Rattle.linked_laws.proofs.node_laws.Rows.{linked_rows}
use Rattle.linked_laws.proofs.node_laws.laws.linked_rows.Goals as goal

pub returns : goal.returns
returns c = λ names. linked_rows {names = names}
