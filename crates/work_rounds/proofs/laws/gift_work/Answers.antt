use Rattle.work_rounds.proofs.Gifts.{gift_work}
use Rattle.work_rounds.proofs.laws.gift_work.Goals as goal

pub returns : goal.returns
returns c = gift_work
