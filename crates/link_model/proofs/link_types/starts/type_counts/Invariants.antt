use Rattle.std.proofs.Common.{◌≡◌, length, map, take}
use Rattle.core_tree.specs.declared.node.Unit.{Unit}
use Rattle.link_model.proofs.link_types.starts.type_counts.Given as goal

abbrev pub invariant-loop-unit : goal.invariant-loop-unit
invariant-loop-unit l = l.list.items ≡ map (λ (x : Unit). length x.types.terms) (take l.unit-index l.units)
