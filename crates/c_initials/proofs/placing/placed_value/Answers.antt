use Rattle.std.proofs.Common.{sym, ap, ◌∙◌, Some, Err, List}
use Rattle.c_types.specs.declared.term.PathStep.{PathStep}
use Rattle.c_types.specs.Table.{type_of}
use Rattle.c_inits.specs.Items.{placed_of}
use Rattle.c_senses.specs.Sense.{sense_in}
use Rattle.c_senses.specs.Initialised.{type_along, fixed_or}
use Rattle.core_nodes.proofs.Failing.{made_same, follows, fails}
use Rattle.c_results.specs.Standing.{senses_made}
use Rattle.tree_reads.specs.Sources.{source_read}
use Rattle.c_initials.specs.Scope.{item_value}
use Rattle.c_initials.proofs.ValueLaws.{placed_at}
use Rattle.c_initials.proofs.placing.placed_value.Goals as goal

pub returns-in-Ok-clause-made : goal.returns-in-Ok-clause-made
returns-in-Ok-clause-made c = λ w told.
    let u = c.args.unit.now in
    let s = source_read c.args.scope.now.syntax.now in
    let sense = sense_in (senses_made u c.args.scope.now.results.now) in
    let t = type_of u.types c.args.whole.0 in
    let here = type_of u.types c.in-Some.ty.0 in
    let p = placed_of c.args.item.now in
    let along = ap (λ (path : List PathStep). type_along w (Some t) path) (sym c.as_slice.ensures.value) ∙ sym (c.in-Some.ensures.part w (record { members = told.knows.members; tags = told.knows.tags })) in
    made_same c.value_of_item.new.unit c.fixed_or.result _ _ (placed_at w s sense c.args.is_static t here p along)
    (follows c.value_of_item.new.unit c.value_of_item.new.unit c.in-Ok.value c.fixed_or.result (item_value w s sense p here) (fixed_or w s sense c.args.is_static p.node) (c.in-Ok.ensures.made w told.knows) (c.fixed_or.ensures.made u w told))

pub returns-in-Err-clause-made : goal.returns-in-Err-clause-made
returns-in-Err-clause-made c = λ w told.
    let u = c.args.unit.now in
    let s = source_read c.args.scope.now.syntax.now in
    let sense = sense_in (senses_made u c.args.scope.now.results.now) in
    let t = type_of u.types c.args.whole.0 in
    let here = type_of u.types c.in-Some.ty.0 in
    let p = placed_of c.args.item.now in
    let along = ap (λ (path : List PathStep). type_along w (Some t) path) (sym c.as_slice.ensures.value) ∙ sym (c.in-Some.ensures.part w (record { members = told.knows.members; tags = told.knows.tags })) in
    made_same c.value_of_item.new.unit (Err c.in-Err.fault) _ _ (placed_at w s sense c.args.is_static t here p along)
    (fails c.value_of_item.new.unit c.value_of_item.new.unit c.in-Err.fault (item_value w s sense p here) (fixed_or w s sense c.args.is_static p.node) (c.in-Err.ensures.made w told.knows))
