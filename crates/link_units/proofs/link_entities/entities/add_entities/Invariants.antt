use Rattle.link_model.specs.Units.{item}
use Rattle.link_names.specs.Scene.{joined_of}
use Rattle.link_units.specs.link_entities.Row.{AreLinked, place_of}
use Rattle.link_units.proofs.link_entities.entities.add_entities.Given as goal

abbrev pub invariant-loop-number : goal.invariant-loop-number
invariant-loop-number l = AreLinked (joined_of l.linking.scene.now) l.linking.scene.now.declared.now l.linking.numbers.now (place_of l.linking.numbers.now (item l.unit l.number)) l.list.items
