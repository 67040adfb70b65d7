use Rattle.std.proofs.Common.{◌≡◌, true, false, sym, ap, ◌∙◌}
use Rattle.c_types.specs.Trees.{Ctype}
use Rattle.c_consts.specs.Core.{ctype_of}
use Rattle.c_senses.specs.Sense.{sense_in, value_in}
use Rattle.c_senses.specs.Conversions.{operand_of, is_scalar}
use Rattle.c_results.specs.Standing.{senses_made}
use Rattle.core_nodes.specs.Standing.{core_at}
use Rattle.core_nodes.proofs.Failing.{fails}
use Rattle.c_statements.proofs.Bodies.{tested, test_made}
use Rattle.c_statements.proofs.fors.tested.Goals as goal

pub returns-in-Err-clause-made : goal.returns-in-Err-clause-made
returns-in-Err-clause-made c = λ w s knows.
    let sense = sense_in (senses_made c.args.unit.now c.args.results.now) in
    let u = c.value_of.new.unit in
    fails u u c.in-Err.fault (value_in w c.args.at (sense c.args.part)) (tested c.args.at) (c.in-Err.ensures.made w knows)

pub returns-then-is_scalar-clause-made : goal.returns-then-is_scalar-clause-made
returns-then-is_scalar-clause-made c = λ w s knows.
    let sense = sense_in (senses_made c.args.unit.now c.args.results.now) in
    let v = core_at c.value_of.new.unit c.in-Ok.node in
    let scalar : c.is_scalar.result ≡ is_scalar (operand_of (ctype_of v)) = c.is_scalar.ensures ∙ (ap is_scalar c.operand_of-sort.ensures.sort ∙ ap (λ (t : Ctype). is_scalar (operand_of t)) c.type_of_node.ensures.tree) in
    test_made c.args.at (value_in w c.args.at (sense c.args.part)) v true (c.in-Ok.ensures.made w knows) (sym c.if-is_scalar.true ∙ scalar)

pub returns-else-is_scalar-clause-made : goal.returns-else-is_scalar-clause-made
returns-else-is_scalar-clause-made c = λ w s knows.
    let sense = sense_in (senses_made c.args.unit.now c.args.results.now) in
    let v = core_at c.value_of.new.unit c.in-Ok.node in
    let scalar : c.is_scalar.result ≡ is_scalar (operand_of (ctype_of v)) = c.is_scalar.ensures ∙ (ap is_scalar c.operand_of-sort.ensures.sort ∙ ap (λ (t : Ctype). is_scalar (operand_of t)) c.type_of_node.ensures.tree) in
    test_made c.args.at (value_in w c.args.at (sense c.args.part)) v false (c.in-Ok.ensures.made w knows) (sym c.if-is_scalar.false ∙ scalar)
