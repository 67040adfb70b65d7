use Rattle.covered_runs.proofs.covered_programs.allocation_laws.Spaced.{objects_spaced}
use Rattle.covered_runs.proofs.covered_programs.allocation_laws.laws.objects_spaced.Goals as goal

pub returns : goal.returns
returns c = objects_spaced
