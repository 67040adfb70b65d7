use Rattle.std.proofs.Common.{◌≡◌, ◌≤◌, ◌++◌, length, drop}
use Rattle.core_nodes.specs.Standing.{IsReady, Builds}
use Rattle.core_nodes.specs.kept_nodes.Copied.{AreCopied}
use Rattle.core_nodes.proofs.kept_nodes.copies.copies.Given as goal

-- so many of the nodes are copied
abbrev pub invariant-loop-node : goal.invariant-loop-node
invariant-loop-node l = record {
  ready : IsReady l.unit;
  builds : Builds l.fn.unit l.unit;
  rest : l.rest.items ≡ drop (length l.numbers.items) l.fn.cut.items;
  few : length l.numbers.items ≤ length l.fn.cut.items;
  copied : AreCopied l.fn.unit.types (l.fn.unit.nodes.items ++ l.fn.cut.items) l.from l.marks (length l.numbers.items) l.numbers.items l.unit;
}

abbrev pub decreases-loop-node : goal.decreases-loop-node
decreases-loop-node l = length l.rest.items
