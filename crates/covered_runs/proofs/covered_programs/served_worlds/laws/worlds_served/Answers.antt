use Rattle.covered_runs.proofs.covered_programs.served_worlds.Serving.{worlds_served}
use Rattle.covered_runs.proofs.covered_programs.served_worlds.laws.worlds_served.Goals as goal

pub returns : goal.returns
returns c = worlds_served
