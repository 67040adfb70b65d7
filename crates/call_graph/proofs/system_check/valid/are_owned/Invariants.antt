use Rattle.std.proofs.Common.{◌≡◌, ℕ, ◌<◌, Some, slice_get}
use Rattle.sol_model.specs.declared.system.Function.{Function}
use Rattle.call_graph.specs.system_check.Owners.{IsOwned}
use Rattle.call_graph.proofs.system_check.valid.are_owned.Given as goal

-- the locations of the functions so far know them
abbrev pub invariant-loop-number : goal.invariant-loop-number
invariant-loop-number l = (k : ℕ) (function : Function) → k < l.number → slice_get l.system.functions k ≡ Some function → IsOwned l.system k function
