use Rattle.round_settling.proofs.Working.{one_work}
use Rattle.work_rounds.proofs.laws.one_work.Goals as goal

pub returns : goal.returns
returns c = one_work
