use Rattle.covered_runs.proofs.covered_programs.allocation_laws.Spreading.{allocators_spread}
use Rattle.covered_runs.proofs.covered_programs.allocation_laws.laws.allocators_spread.Goals as goal

pub returns : goal.returns
returns c = allocators_spread
