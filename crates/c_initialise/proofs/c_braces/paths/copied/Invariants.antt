use Rattle.std.proofs.Common.{◌≡◌, take}
use Rattle.c_initialise.proofs.c_braces.paths.copied.Given as goal

abbrev pub invariant-loop-step : goal.invariant-loop-step
invariant-loop-step l = l.copy.items ≡ take l.step-index l.path
