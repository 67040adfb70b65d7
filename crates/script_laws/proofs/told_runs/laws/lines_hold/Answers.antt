use Rattle.script_laws.proofs.told_runs.Lines.{lines_hold}
use Rattle.script_laws.proofs.told_runs.laws.lines_hold.Goals as goal

pub returns : goal.returns
returns c = lines_hold
