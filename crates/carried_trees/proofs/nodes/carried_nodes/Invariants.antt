use Rattle.std.proofs.Common.{◌≡◌, ◌+◌, ◌≤◌, ℕ, Option, length, drop}
use Rattle.c_types.specs.Trees.{Ctype}
use Rattle.core_tree.specs.declared.node.Unit.{Unit}
use Rattle.core_nodes.specs.Standing.{IsReady, Builds}
use Rattle.tree_reads.specs.leaf_maps.Numbers.{number_at}
use Rattle.carried_trees.specs.Copied.{AreCarried}
use Rattle.carried_trees.specs.carried_types.Terms.{AreTypes}
use Rattle.carried_trees.proofs.nodes.carried_nodes.Given as goal

-- so many nodes are carried
abbrev pub invariant-loop-node : goal.invariant-loop-node
invariant-loop-node l = record {
  ready : IsReady l.unit;
  builds : Builds l.fn.unit l.unit;
  types : l.unit.types ≡ l.fn.unit.types;
  rest : l.rest.items ≡ drop (length l.flags.items) l.fn.nodes.items;
  few : length l.flags.items ≤ length l.fn.nodes.items;
  count : length l.unit.nodes.items ≡ l.from + length l.flags.items;
  carried : (old : Unit) (tag : ℕ → Option Ctype) → IsReady old → old.nodes.items ≡ l.fn.nodes.items → AreTypes tag old.types (length old.types.terms) l.fn.types.ids.items l.fn.types.given.items l.fn.unit.types
      → AreCarried (number_at l.fn.entities) (number_at l.fn.own) tag old l.from (length l.flags.items) l.flags.items l.unit;
}

abbrev pub decreases-loop-node : goal.decreases-loop-node
decreases-loop-node l = length l.rest.items
