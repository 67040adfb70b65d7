use Rattle.c_consts.specs.Core.{Of, NoCores, MoreCores}
use Rattle.c_types.specs.Trees.{VoidType}
use Rattle.core_tree.specs.declared.node.NodeKind.TheVariants.{Expression}
use Rattle.c_senses.specs.Given.{Fits}
use Rattle.c_senses.specs.Places.{own_place}
use Rattle.c_senses.specs.Sense.{sense_in, value_in}
use Rattle.c_results.specs.Standing.{senses_made}
use Rattle.core_nodes.proofs.Failing.{fails}
use Rattle.c_statements.proofs.Brought.{row_one}
use Rattle.c_statements.proofs.simple.expression_row.Goals as goal

pub returns-in-Err-clause-made : goal.returns-in-Err-clause-made
returns-in-Err-clause-made c = λ w s knows place.
    let u0 = c.args.unit.now in
    let u1 = c.value_of.new.unit in
    let g = value_in w c.args.at (sense_in (senses_made u0 c.args.results.now) c.args.part) in
    fails u1 u1 c.in-Err.fault g (λ v. Fits (Of Expression (own_place s c.args.part) VoidType (MoreCores v NoCores))) (c.in-Err.ensures.made w knows)

pub returns-clause-made : goal.returns-clause-made
returns-clause-made c = λ w s knows place.
    let u0 = c.args.unit.now in
    let u1 = c.value_of.new.unit in
    let g = value_in w c.args.at (sense_in (senses_made u0 c.args.results.now) c.args.part) in
    row_one u1 c.void_type.new.unit c.push_over.new.unit c.push_over.result g Expression c.args.place (own_place s c.args.part) c.in-Ok-void_type.ty.0 c.in-Ok.node c.in-Ok-void_type.ensures.builds c.in-Ok.ensures.within c.in-Ok-void_type.ensures.made place (c.in-Ok.ensures.made w knows) c.push_over.ensures.made
