use Rattle.std.proofs.Common.{◌≡◌, map, take}
use Rattle.ref_state.specs.Values.{value_in}
use Rattle.ref_calls.proofs.reached.values_of.Given as goal

abbrev pub invariant-loop-n : goal.invariant-loop-n
invariant-loop-n l = l.list ≡ map (value_in l.values) (take l.n-index l.nodes)
