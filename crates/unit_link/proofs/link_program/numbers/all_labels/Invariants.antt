use Rattle.std.proofs.Common.{◌≡◌, map, take}
use Rattle.unit_link.specs.link_program.Rows.{all_entities, label_of}
use Rattle.unit_link.proofs.link_program.numbers.all_labels.Given as goal

abbrev pub invariant-loop-unit : goal.invariant-loop-unit
invariant-loop-unit l = l.list.items ≡ map label_of (all_entities (take l.unit-index l.units))
