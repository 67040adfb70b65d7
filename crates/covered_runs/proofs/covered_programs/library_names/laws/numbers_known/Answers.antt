use Rattle.covered_runs.proofs.covered_programs.library_names.Numbers.{numbers_known}
use Rattle.covered_runs.proofs.covered_programs.library_names.laws.numbers_known.Goals as goal

pub returns : goal.returns
returns c = numbers_known
