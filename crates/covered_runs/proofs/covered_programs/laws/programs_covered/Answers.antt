use Rattle.covered_runs.proofs.covered_programs.Programs.{programs_covered}
use Rattle.covered_runs.proofs.covered_programs.laws.programs_covered.Goals as goal

pub returns : goal.returns
returns c = programs_covered
