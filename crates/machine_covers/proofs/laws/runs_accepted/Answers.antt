use Rattle.machine_covers.proofs.Runs.{runs_accepted}
use Rattle.machine_covers.proofs.laws.runs_accepted.Goals as goal

pub returns : goal.returns
returns c units p system family machine analysed is words n state = runs_accepted units p system family machine analysed is words n state
