use Rattle.std.proofs.Common.{◌≡◌, Some, Option, Err, sym, subst}
use Rattle.core_tree.specs.declared.node.NodeKind.TheVariants.{Return}
use Rattle.c_types.specs.declared.term.TypeId.{TypeId}
use Rattle.c_types.specs.Trees.{VoidType}
use Rattle.c_types.specs.Table.{type_of}
use Rattle.c_consts.specs.Core.{Of, NoCores, MoreCores}
use Rattle.c_senses.specs.Given.{Fits, ◌>>=◌}
use Rattle.c_senses.specs.Tree.{place_at}
use Rattle.c_senses.specs.Sense.{sense_in}
use Rattle.c_senses.specs.Statements as spec
use Rattle.core_nodes.proofs.Failing.{fails, made_same}
use Rattle.c_results.specs.Standing.{senses_made, TypeSeen}
use Rattle.tree_reads.specs.Sources.{source_in}
use Rattle.c_statements.specs.Others.{returned}
use Rattle.c_statements.proofs.Brought.{row_one}
use Rattle.c_statements.proofs.Returning.{return_of}
use Rattle.c_statements.proofs.returns.return_row.Goals as goal

pub returns-in-Err-returned_value-clause-made : goal.returns-in-Err-returned_value-clause-made
returns-in-Err-returned_value-clause-made c = λ w uses knows seen.
    let s = source_in c.args.syntax.now uses in
    let u0 = c.args.unit.now in
    let u1 = c.returned_value.new.unit in
    let at = c.args.at in
    let sense = sense_in (senses_made u0 c.args.results.now) in
    let t = type_of u0.types c.in-Some-returned.ty.0 in
    let typed : spec.returned_type w s sense at ≡ Some t = subst (λ (r : Option TypeId). TypeSeen u0 r (spec.returned_type w s sense at)) c.in-Some-returned.is seen in
    let part = spec.expression_in w s sense c.args.children.now in
    let same = return_of w s sense at c.in-Some.part t part c.in-Some.ensures typed in
    let g = returned w at (sense c.in-Some.part) t in
    made_same u1 (Err c.in-Err-returned_value.fault) (g >>= (λ x. Fits (Of Return (place_at s at) VoidType (MoreCores x NoCores)))) (spec.return_row w s sense at part) (sym same)
    (fails u1 u1 c.in-Err-returned_value.fault g (λ x. Fits (Of Return (place_at s at) VoidType (MoreCores x NoCores))) (c.in-Err-returned_value.ensures.made w knows))

pub returns-clause-made : goal.returns-clause-made
returns-clause-made c = λ w uses knows seen.
    let s = source_in c.args.syntax.now uses in
    let u0 = c.args.unit.now in
    let u1 = c.returned_value.new.unit in
    let u3 = c.push_over.new.unit in
    let at = c.args.at in
    let sense = sense_in (senses_made u0 c.args.results.now) in
    let t = type_of u0.types c.in-Some-returned.ty.0 in
    let typed : spec.returned_type w s sense at ≡ Some t = subst (λ (r : Option TypeId). TypeSeen u0 r (spec.returned_type w s sense at)) c.in-Some-returned.is seen in
    let part = spec.expression_in w s sense c.args.children.now in
    let same = return_of w s sense at c.in-Some.part t part c.in-Some.ensures typed in
    let g = returned w at (sense c.in-Some.part) t in
    made_same u3 c.push_over.result (g >>= (λ x. Fits (Of Return (place_at s at) VoidType (MoreCores x NoCores)))) (spec.return_row w s sense at part) (sym same)
    (row_one u1 c.void_type-2.new.unit u3 c.push_over.result g Return c.place_of-2.result (place_at s at) c.in-Ok-void_type.void.0 c.in-Ok-returned_value.node c.in-Ok-void_type.ensures.builds c.in-Ok-returned_value.ensures.within c.in-Ok-void_type.ensures.made c.place_of-2.ensures (c.in-Ok-returned_value.ensures.made w knows) c.push_over.ensures.made)
