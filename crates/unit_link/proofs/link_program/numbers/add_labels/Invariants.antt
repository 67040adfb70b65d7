use Rattle.std.proofs.Common.{◌≡◌, ◌++◌, map, take}
use Rattle.unit_link.specs.link_program.Rows.{label_of}
use Rattle.unit_link.proofs.link_program.numbers.add_labels.Given as goal

abbrev pub invariant-loop-entity : goal.invariant-loop-entity
invariant-loop-entity l = l.list.items ≡ l.initial.list.items ++ map label_of (take l.entity-index l.entities)
