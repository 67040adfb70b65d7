use Rattle.covered_runs.proofs.covered_steps.covered_values.Awaited.{types_awaited}
use Rattle.covered_runs.proofs.covered_steps.covered_values.laws.types_awaited.Goals as goal

pub returns : goal.returns
returns c world state f rest n v node values items typed awaited frames_are items_are there kind children =
    types_awaited world state f rest n v node values items typed awaited frames_are items_are there kind children
