use Rattle.std.proofs.Common.{◌≡◌, take}
use Rattle.c_inits.specs.Items.{key_path}
use Rattle.c_inits.proofs.items.path_key.Given as goal

abbrev pub invariant-loop-step : goal.invariant-loop-step
invariant-loop-step l = l.key.items ≡ key_path (take l.step-index l.path)
