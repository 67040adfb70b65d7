use Rattle.std.proofs.Common.{arith, ℕ, List, sym, subst, get_or, drop}
use Rattle.c_senses.specs.Sense.{sense_in, core_of}
use Rattle.c_senses.specs.Expressions as expressions
use Rattle.core_nodes.proofs.Failing.{follows}
use Rattle.c_results.specs.Standing.{senses_made, Rowed}
use Rattle.expression_rows.proofs.c_rows.Steps.{two_of}
use Rattle.parsed_tree_laws.proofs.sense_laws.row_trees.Expressions.{prefixed_rows}
use Rattle.expression_rows.proofs.whole_rows.Keeping.{sense_rows}
use Rattle.expression_rows.proofs.whole_rows.Prefixes.{made_rows}
use Rattle.expression_rows.proofs.whole_rows.Worlds.{bare_world, bare_source, knows_itself}
use Rattle.expression_rows.proofs.whole_rows.prefix.prefixed.Goals as goal

pub returns-in-Ok-clause-row : goal.returns-in-Ok-clause-row
returns-in-Ok-clause-row c w s k =
    let u = c.args.unit.now in
    let u1 = c.prefixed_node.new.unit in
    let S = sense_in (senses_made u c.args.results.now) in
    let xs = c.args.children.now in
    let node = follows u u1 c.in-Ok.operand c.prefixed_node.result (core_of c.args.at (S (get_or xs 1 0)))
    (λ y. expressions.prefixed_core w s S c.args.place c.args.at y c.args.sign) c.in-Ok.ensures.made (c.prefixed_node.ensures.made w s S k) in
    subst (λ (l : List ℕ). Rowed u1 c.sensed.result (expressions.prefixed w s S c.args.place c.args.at c.args.sign l)) (sym (two_of xs (omega (arith, c.if-children-lt2.false))))
    (c.sensed.ensures.row u1 _ node)

pub returns-in-Ok-clause-rows : goal.returns-in-Ok-clause-rows
returns-in-Ok-clause-rows c =
    let u = c.args.unit.now in
    let rs = c.args.results.now in
    let w = bare_world u in
    made_rows c.prefixed_node.new.unit c.sensed.result _ (returns-in-Ok-clause-row c w bare_source (knows_itself u))
    (prefixed_rows w bare_source (sense_in (senses_made u rs)) (sense_rows u rs c.requires.rows) c.args.place c.args.at c.args.sign (drop 1 c.args.children.now))
