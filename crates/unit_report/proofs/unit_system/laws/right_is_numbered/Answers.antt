use Rattle.unit_report.proofs.unit_system.Numbering.{right_numbered}
use Rattle.unit_report.proofs.unit_system.laws.right_is_numbered.Goals as goal

pub returns : goal.returns
returns c = right_numbered
