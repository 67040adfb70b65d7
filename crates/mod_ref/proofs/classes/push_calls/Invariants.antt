use Rattle.std.proofs.Common.{◌≡◌, ◌++◌, map, take}
use Rattle.mod_ref.specs.Ways.{call_copy}
use Rattle.mod_ref.proofs.classes.push_calls.Given as goal

-- those of the edges so far
abbrev pub invariant-loop-edge : goal.invariant-loop-edge
invariant-loop-edge l = l.list ≡ l.fn.list ++ map call_copy (take l.edge-index l.edges)
