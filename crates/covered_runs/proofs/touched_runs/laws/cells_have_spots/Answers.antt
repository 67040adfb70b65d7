use Rattle.covered_runs.proofs.touched_runs.Runs.{cells_have_spots}
use Rattle.covered_runs.proofs.touched_runs.laws.cells_have_spots.Goals as goal

pub returns : goal.returns
returns c = cells_have_spots
