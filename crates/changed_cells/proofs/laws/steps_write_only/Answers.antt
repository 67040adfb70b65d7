use Rattle.changed_cells.proofs.Steps.{steps_write_only}
use Rattle.changed_cells.proofs.laws.steps_write_only.Goals as goal

pub returns : goal.returns
returns c = steps_write_only
