use Rattle.c_types.specs.Table.{type_of}
use Rattle.c_inits.specs.Items.{placed_of}
use Rattle.c_senses.specs.Sense.{sense_in}
use Rattle.core_nodes.specs.Standing.{core_at}
use Rattle.core_nodes.proofs.Failing.{made_same}
use Rattle.c_results.specs.Standing.{senses_made}
use Rattle.tree_reads.specs.Sources.{source_read}
use Rattle.c_initials.proofs.ValueLaws.{item_expression, item_character, item_nothing, item_no_character}
use Rattle.c_initials.proofs.placing.value_of_item.Goals as goal

pub expression-requires-clause-rows : goal.expression-requires-clause-rows
expression-requires-clause-rows c = c.in-Some.ensures.rows c.args.unit.now c.requires.rows

pub returns-in-None-character-clause-made : goal.returns-in-None-character-clause-made
returns-in-None-character-clause-made c = λ w k.
    let u = c.args.unit.now in
    let s = source_read c.args.scope.now.syntax.now in
    let sense = sense_in (senses_made u c.args.scope.now.results.now) in
    made_same c.expression.new.unit c.expression.result _ _
    (item_expression w s sense (placed_of c.args.item.now) (type_of u.types c.args.ty.0) (core_at u c.in-Some.node) c.in-None-character.is (c.in-Some.ensures.seen u w)) (c.expression.ensures.made w k)

pub returns-in-Some-character-clause-made : goal.returns-in-Some-character-clause-made
returns-in-Some-character-clause-made c = λ w k.
    let u = c.args.unit.now in
    let s = source_read c.args.scope.now.syntax.now in
    let sense = sense_in (senses_made u c.args.scope.now.results.now) in
    made_same c.character.new.unit c.character.result _ _
    (item_character w s sense (placed_of c.args.item.now) (type_of u.types c.args.ty.0) (core_at u c.in-Some.node) c.in-Some-character.position c.in-Some-character.is (c.in-Some.ensures.seen u w)) (c.character.ensures.made w s sense)

pub returns-in-None-character-2-clause-made : goal.returns-in-None-character-2-clause-made
returns-in-None-character-2-clause-made c = λ w k.
    let u = c.args.unit.now in
    let s = source_read c.args.scope.now.syntax.now in
    let sense = sense_in (senses_made u c.args.scope.now.results.now) in
    item_nothing w s sense (placed_of c.args.item.now) (type_of u.types c.args.ty.0) c.in-None-character-2.is (c.in-None.ensures.seen u w)

pub returns-in-Some-character-2-clause-made : goal.returns-in-Some-character-2-clause-made
returns-in-Some-character-2-clause-made c = λ w k.
    let u = c.args.unit.now in
    let s = source_read c.args.scope.now.syntax.now in
    let sense = sense_in (senses_made u c.args.scope.now.results.now) in
    item_no_character w s sense (placed_of c.args.item.now) (type_of u.types c.args.ty.0) c.in-Some-character-2.field-0 c.in-Some-character-2.is (c.in-None.ensures.seen u w)
