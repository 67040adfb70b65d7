use Rattle.link_model.specs.Units.{item}
use Rattle.link_names.specs.Scene.{joined_of}
use Rattle.link_units.specs.link_entities.Row.{AreLinked, place_of}
use Rattle.link_units.proofs.link_entities.entities.linked_entities.Given as goal

abbrev pub invariant-loop-unit : goal.invariant-loop-unit
invariant-loop-unit l = AreLinked (joined_of l.linking.scene.now) l.linking.scene.now.declared.now l.linking.numbers.now (place_of l.linking.numbers.now (item l.unit 0)) l.list.items
