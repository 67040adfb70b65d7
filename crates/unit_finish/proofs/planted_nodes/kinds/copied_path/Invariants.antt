use Rattle.std.proofs.Common.{◌≡◌, take}
use Rattle.unit_finish.proofs.planted_nodes.kinds.copied_path.Given as goal

abbrev pub invariant-loop-step : goal.invariant-loop-step
invariant-loop-step l = l.copy ≡ take l.step-index l.path
