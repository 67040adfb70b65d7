use Rattle.script_laws.proofs.Whole.{one_fate}
use Rattle.script_laws.proofs.laws.one_fate.Goals as goal

pub returns : goal.returns
returns c = one_fate
