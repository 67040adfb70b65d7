use Rattle.twin_report_laws.proofs.systems.Whole.{one_solution}
use Rattle.twin_report_laws.proofs.systems.laws.one_solution.Goals as goal

pub returns : goal.returns
returns c = one_solution
