use Rattle.std.proofs.Common.{◌≡◌, ◌+◌, List, Some, length, sym, ap, subst, ◌∙◌, arith}
use Rattle.std.proofs.lemmas.Option.{slice_get-get_or}
use Rattle.std.specs.List.{slice_get}
use Rattle.core_tree.specs.declared.node.Entity.{Entity}
use Rattle.link_model.specs.Units.{item}
use Rattle.link_names.specs.Scene.{joined_of}
use Rattle.link_units.specs.link_entities.Row.{AreLinked, place_of}
use Rattle.link_units.proofs.link_entities.Rowing.{unit_end}
use Rattle.link_units.proofs.link_entities.entities.add_entities.Goals as goal

pub add_entity-requires-clause-there : goal.add_entity-requires-clause-there
add_entity-requires-clause-there c =
    let i = c.loop-number.number in
    let x = c.index-entities-number.result in
    ap (λ (l : List Entity). slice_get l i) (sym c.requires.all) ∙ (slice_get-get_or c.args.entities.now i x c.loop-number-test.true ∙ ap Some (sym c.index-entities-number.is))

pub loop-number-preserved : goal.loop-number-preserved
loop-number-preserved c =
    let k = c.args.linking.now in
    let next : place_of k.numbers.now (item c.args.unit c.loop-number.number) + 1 ≡ place_of k.numbers.now (item c.args.unit (c.loop-number.number + 1)) = omega arith in
    subst (λ g. AreLinked (joined_of k.scene.now) k.scene.now.declared.now k.numbers.now g c.add_entity.new.list.items) next c.in_ok-add_entity.ensures

pub returns : goal.returns
returns c =
    let k = c.args.linking.now in
    let many : c.loop-number.number ≡ length c.args.entities.now = (let a = c.loop-number-test.false in let b = c.loop-number.auto.number-end in omega arith) in
    let end = unit_end k.scene.now.units.now k.numbers.now c.args.unit c.loop-number.number c.requires.linking.numbers c.requires.unit (many ∙ ap length c.requires.all) in
    subst (λ g. AreLinked (joined_of k.scene.now) k.scene.now.declared.now k.numbers.now g c.loop-number.list.items) end c.loop-number.invariant
