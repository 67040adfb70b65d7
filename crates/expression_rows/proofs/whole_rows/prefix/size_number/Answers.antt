use Rattle.std.proofs.Common.{arith, rules, ◌<◌}
use Rattle.c_senses.specs.Given.{Fits}
use Rattle.c_senses.specs.Objects.{size_number}
use Rattle.core_nodes.specs.Standing.{Made}
use Rattle.c_conversions.specs.Constants.{HasRows}
use Rattle.parsed_tree_laws.proofs.sense_laws.row_trees.Objects.{size_number_rows}
use Rattle.expression_rows.proofs.whole_rows.Worlds.{bare_world, made_has}
use Rattle.expression_rows.proofs.whole_rows.prefix.size_number.Goals as goal

pub returns-clause-rows : goal.returns-clause-rows
returns-clause-rows c =
    let place = c.args.place in
    let n = c.args.size in
    let lt : n < 18446744073709551616 = omega arith in
    let made : Made c.push_leaf.new.unit c.push_leaf.result (Fits (size_number place n)) = search rules in
    made_has HasRows c.push_leaf.new.unit c.push_leaf.result (Fits (size_number place n)) made (size_number_rows (bare_world c.args.unit.now) place n lt)
