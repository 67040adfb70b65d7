use Rattle.std.proofs.Common.{◌≡◌, ◌<◌, ◌^◌, All, length, map, take}
use Rattle.core_tree.specs.declared.node.Unit.{Unit}
use Rattle.unit_link.proofs.link_program.counts.node_counts.Given as goal

abbrev pub invariant-loop-unit : goal.invariant-loop-unit
invariant-loop-unit l = record {
  counts : l.list.items ≡ map (λ (x : Unit). length x.nodes.items) (take l.unit-index l.units);
  small : All (λ (x : Unit). length x.nodes.items < 2 ^ 32) (take l.unit-index l.units);
}
