use Rattle.std.proofs.Common.{◌≡◌, ◌++◌, map, drop}
use Rattle.unit_finish.specs.unit_parts.Numbered.{new_number}
use Rattle.unit_finish.proofs.unit_parts.kept.many_numbers.Given as goal

abbrev pub invariant-loop-node : goal.invariant-loop-node
invariant-loop-node l = l.list.items ++ map (new_number l.numbers) (drop l.node-index l.nodes) ≡ map (new_number l.numbers) l.nodes
