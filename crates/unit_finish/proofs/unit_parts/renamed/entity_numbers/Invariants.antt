use Rattle.std.proofs.Common.{◌≡◌, ◌++◌, map, drop}
use Rattle.tree_reads.specs.leaf_maps.Numbers.{number_at}
use Rattle.unit_finish.specs.unit_parts.Renamed.{entity_number}
use Rattle.unit_finish.proofs.unit_parts.renamed.entity_numbers.Given as goal

abbrev pub invariant-loop-leaf : goal.invariant-loop-leaf
invariant-loop-leaf l = l.list.items ++ map (entity_number (number_at l.numbers)) (drop l.leaf-index l.leaves) ≡ map (entity_number (number_at l.numbers)) l.leaves
