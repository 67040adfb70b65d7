use Rattle.covered_runs.proofs.covered_steps.covered_effects.Traces.{effects_traced}
use Rattle.covered_runs.proofs.covered_steps.covered_effects.laws.effects_traced.Goals as goal

pub returns : goal.returns
returns c = effects_traced
