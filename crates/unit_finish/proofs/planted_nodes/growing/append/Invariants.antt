use Rattle.std.proofs.Common.{◌≡◌, ◌++◌, length, take}
use Rattle.unit_finish.specs.planted_nodes.Grown.{Notes}
use Rattle.unit_finish.proofs.planted_nodes.growing.append.Given as goal

abbrev pub invariant-loop-child : goal.invariant-loop-child
invariant-loop-child l = record {
  origins : l.origins.items ≡ l.fn.origins.items ++ take l.child-index l.children;
  met : Notes (length l.fn.origins.items) l.children l.child-index l.fn.met.items l.met.items;
}
