use Rattle.script_laws.proofs.told_runs.Texts.{stores_within_sets}
use Rattle.script_laws.proofs.told_runs.laws.stores_within_sets.Goals as goal

pub returns : goal.returns
returns c = stores_within_sets
