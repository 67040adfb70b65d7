use Rattle.script_laws.proofs.Whole.{one_script}
use Rattle.script_laws.proofs.laws.one_script.Goals as goal

pub returns : goal.returns
returns c = one_script
