use Rattle.std.proofs.Common.{◌≡◌, ◌+◌, ◌-◌, ◌≤◌, ◌++◌, length, map, take, drop}
use Rattle.unit_finish.specs.unit_parts.Numbered.{moved, staying}
use Rattle.unit_finish.proofs.unit_parts.kept.turned.Given as goal

-- the nodes that came back, and those that are still to come
abbrev pub invariant-loop-at : goal.invariant-loop-at
invariant-loop-at l = record {
  room : l.count ≤ l.at + length l.ring.items;
  kept : drop (l.count - l.at) l.ring.items ++ map (moved l.numbers) (staying (take (l.count - l.at) l.ring.items) (drop l.at l.numbers))
      ≡ map (moved l.numbers) (staying l.fn.nodes.items l.numbers);
}
