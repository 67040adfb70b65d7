use Rattle.covering_laws.proofs.covered_state.Stays.{settled_in}
use Rattle.covering_laws.proofs.covered_state.laws.values_settle.Goals as goal

pub returns : goal.returns
returns c world memory f n v items h i = settled_in world memory f n v items h i
