use Rattle.covered_runs.proofs.covered_steps.covered_values.Standing.{stands_met}
use Rattle.covered_runs.proofs.covered_steps.covered_values.laws.stands_met.Goals as goal

pub returns : goal.returns
returns c p more world valid made named fit follow over grounds closed found firsts = stands_met p more world valid made named fit follow over grounds closed found firsts
