use Rattle.covered_runs.proofs.covered_steps.covered_values.Bare.{nothing_bare}
use Rattle.covered_runs.proofs.covered_steps.covered_values.laws.nothing_bare.Goals as goal

pub returns : goal.returns
returns c world state f rest own n node values top items word e stands typed awaited frames_are items_are how there is done i inst at bare =
    nothing_bare world state f rest own n node values top items word e stands typed awaited frames_are items_are how there is done i inst at bare
