use Rattle.covered_runs.proofs.covered_steps.covered_values.Above.{above_met}
use Rattle.covered_runs.proofs.covered_steps.covered_values.laws.above_met.Goals as goal

pub returns : goal.returns
returns c p more world valid made over l x d id n node at key content there kind children =
    above_met p more world valid made over l x d id n node at key content there kind children
