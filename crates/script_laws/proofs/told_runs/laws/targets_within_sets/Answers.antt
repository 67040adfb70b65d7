use Rattle.script_laws.proofs.told_runs.Texts.{targets_within_sets}
use Rattle.script_laws.proofs.told_runs.laws.targets_within_sets.Goals as goal

pub returns : goal.returns
returns c = targets_within_sets
