use Rattle.work_rounds.proofs.Rings.{ring_work}
use Rattle.work_rounds.proofs.laws.ring_work.Goals as goal

pub returns : goal.returns
returns c = ring_work
