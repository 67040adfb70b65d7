use Rattle.changed_cells.proofs.Runs.{changes_covered}
use Rattle.changed_cells.proofs.laws.changes_covered.Goals as goal

pub returns : goal.returns
returns c = changes_covered
