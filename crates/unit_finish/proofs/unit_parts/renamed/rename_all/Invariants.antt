use Rattle.std.proofs.Common.{◌≡◌, ◌+◌, ◌-◌, ◌≤◌, ◌++◌, length, map, take, drop}
use Rattle.tree_reads.specs.leaf_maps.Numbers.{number_at}
use Rattle.unit_finish.specs.unit_parts.Renamed.{renamed_node}
use Rattle.unit_finish.proofs.unit_parts.renamed.rename_all.Given as goal

-- the nodes that came back, and those that are still to come
abbrev pub invariant-loop-at : goal.invariant-loop-at
invariant-loop-at l = record {
  room : l.count ≤ l._at + length l.ring.items;
  kept : drop (l.count - l._at) l.ring.items ++ map (renamed_node (number_at l.numbers)) (take (l.count - l._at) l.ring.items) ≡ map (renamed_node (number_at l.numbers)) l.fn.nodes.items;
}
