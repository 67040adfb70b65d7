use Rattle.std.proofs.Common.{◌-◌, length}
use Rattle.core_tree.specs.Seen.{core_of}
use Rattle.core_tree.specs.Range.{Under}
use Rattle.core_tree.proofs.under.is_under.Given as goal

abbrev pub invariant-loop-at : goal.invariant-loop-at
invariant-loop-at l = record {
  up : Under (core_of l.trees) l.top l.node → Under (core_of l.trees) l.top l.at;
  down : Under (core_of l.trees) l.top l.at → Under (core_of l.trees) l.top l.node;
}

abbrev pub decreases-loop-at : goal.decreases-loop-at
decreases-loop-at l = length l.trees.nodes.now - l.at
