use Rattle.std.proofs.Common.{◌≡◌, length, subst, arith}
use Rattle.link_names.specs.Scene.{joined_of}
use Rattle.link_units.specs.link_entities.Row.{AreLinked}
use Rattle.link_units.proofs.link_entities.Rowing.{none_linked, all_linked}
use Rattle.link_units.proofs.link_entities.entities.linked_entities.Goals as goal

pub loop-unit-init : goal.loop-unit-init
loop-unit-init c =
    let k = c.args.linking.now in
    none_linked (joined_of k.scene.now) k.scene.now.declared.now k.numbers.now c.new-list.result.items c.requires.numbers c.new-list.ensures.items

pub returns : goal.returns
returns c =
    let k = c.args.linking.now in
    let many : c.loop-unit.unit ≡ length k.scene.now.units.now = (let a = c.loop-unit-test.false in let b = c.loop-unit.auto.unit-end in omega arith) in
    let end = all_linked k.scene.now.units.now k.numbers.now c.loop-unit.unit c.requires.numbers many in
    subst (λ g. AreLinked (joined_of k.scene.now) k.scene.now.declared.now k.numbers.now g c.loop-unit.list.items) end c.loop-unit.invariant
