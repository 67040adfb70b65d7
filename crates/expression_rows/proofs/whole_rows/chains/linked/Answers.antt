use Rattle.std.proofs.Common.{◌≡◌, ◌∙◌, Some, sym}
use Rattle.c_senses.specs.Sense.{sense_in, core_of}
use Rattle.c_senses.specs.Tree.{sign_at}
use Rattle.c_senses.specs.Expressions.{step}
use Rattle.core_nodes.specs.Standing.{core_at}
use Rattle.core_nodes.proofs.Failing.{follows, made_same}
use Rattle.c_senses.specs.Operators.{between}
use Rattle.c_operators.specs.Seen.{operator_seen}
use Rattle.c_results.specs.Standing.{senses_made}
use Rattle.tree_reads.specs.Sources.{source_read}
use Rattle.expression_rows.proofs.whole_rows.Linking.{link_same}
use Rattle.c_conversions.specs.Constants.{HasRows}
use Rattle.parsed_tree_laws.proofs.sense_laws.row_trees.Expressions.{step_rows}
use Rattle.expression_rows.proofs.whole_rows.Keeping.{sense_rows}
use Rattle.expression_rows.proofs.whole_rows.Worlds.{bare_world, knows_itself, made_has}
use Rattle.expression_rows.proofs.whole_rows.chains.linked.Goals as goal

pub returns-in-Some-clause-made : goal.returns-in-Some-clause-made
returns-in-Some-clause-made c w k =
    let u = c.args.unit.now in
    let u1 = c.joined_values.new.unit in
    let s = source_read c.args.syntax.now in
    let sense = sense_in (senses_made u c.args.results.now) in
    let a = core_at u c.args.left in
    let b = core_at u c.in-Ok.node in
    let sign : Some c.in-Some.sign ≡ sign_at s c.args.operator = sym c.in-Some.is ∙ c.sign_of.ensures in
    let same = link_same w s sense c.args.named c.args.operator a b c.in-Some.sign (operator_seen c.operator_of.result) c.place_of-place.result sign c.operator_of.ensures c.place_of-place.ensures in
    follows u u1 c.in-Ok.node c.joined_values.result (core_of c.args.named (sense c.args.right))
    (λ x. step w s sense (between w) c.args.named c.args.operator a x (sign_at s c.args.operator))
    c.in-Ok.ensures.made (made_same u1 c.joined_values.result _ _ same (c.joined_values.ensures.made w k))

pub returns-in-Some-clause-rows : goal.returns-in-Some-clause-rows
returns-in-Some-clause-rows c =
    let u = c.args.unit.now in
    let u1 = c.joined_values.new.unit in
    let rs = c.args.results.now in
    let s = source_read c.args.syntax.now in
    let sense = sense_in (senses_made u rs) in
    let w = bare_world u in
    let a = core_at u c.args.left in
    let b = core_at u c.in-Ok.node in
    let sign : Some c.in-Some.sign ≡ sign_at s c.args.operator = sym c.in-Some.is ∙ c.sign_of.ensures in
    let same = link_same w s sense c.args.named c.args.operator a b c.in-Some.sign (operator_seen c.operator_of.result) c.place_of-place.result sign c.operator_of.ensures c.place_of-place.ensures in
    made_has HasRows u1 c.joined_values.result (step w s sense (between w) c.args.named c.args.operator a b (sign_at s c.args.operator))
    (made_same u1 c.joined_values.result _ _ same (c.joined_values.ensures.made w (knows_itself u)))
    (step_rows w s sense (sense_rows u rs c.requires.rows) c.args.named c.args.operator a b (sign_at s c.args.operator) c.requires.done c.in-Ok.ensures.rows)
