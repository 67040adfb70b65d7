use Rattle.round_settling.proofs.Working.{work_grows}
use Rattle.work_rounds.proofs.laws.work_grows.Goals as goal

pub returns : goal.returns
returns c = work_grows
