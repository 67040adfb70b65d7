use Rattle.changed_cells.proofs.Runs.{bare_changes_covered}
use Rattle.changed_cells.proofs.laws.bare_changes_covered.Goals as goal

pub returns : goal.returns
returns c = bare_changes_covered
