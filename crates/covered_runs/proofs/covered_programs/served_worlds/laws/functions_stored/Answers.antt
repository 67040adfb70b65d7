use Rattle.covered_runs.proofs.covered_programs.served_worlds.Stored.{functions_stored}
use Rattle.covered_runs.proofs.covered_programs.served_worlds.laws.functions_stored.Goals as goal

pub returns : goal.returns
returns c = functions_stored
