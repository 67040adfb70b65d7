use Rattle.std.proofs.Common.{◌≡◌, ℕ, ◌<◌, Some, slice_get}
use Rattle.sol_model.specs.declared.system.LocationFact.{LocationFact}
use Rattle.call_graph.specs.system_check.Owners.{IsPlaced}
use Rattle.call_graph.proofs.system_check.valid.are_placed.Given as goal

-- what the locations so far are said to be fits them
abbrev pub invariant-loop-location : goal.invariant-loop-location
invariant-loop-location l = (k : ℕ) (fact : LocationFact) → k < l.location → slice_get l.system.locations k ≡ Some fact → IsPlaced l.system k fact
