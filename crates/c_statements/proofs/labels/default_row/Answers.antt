use Rattle.std.proofs.Common.{◌≡◌, false, sym, ap, ◌∙◌, is_some, Err}
use Rattle.core_tree.specs.declared.node.NodeKind.TheVariants.{Default}
use Rattle.c_types.specs.Trees.{VoidType}
use Rattle.c_consts.specs.Core.{Of, NoCores, MoreCores}
use Rattle.c_senses.specs.Given.{Fits}
use Rattle.c_senses.specs.Tree.{place_at, any_where, numbers_from}
use Rattle.c_senses.specs.Sense.{sense_in}
use Rattle.c_senses.specs.Statements as spec
use Rattle.c_results.specs.Standing.{senses_made}
use Rattle.tree_reads.specs.Sources.{source_in}
use Rattle.core_nodes.proofs.Failing.{fails, made_same}
use Rattle.c_statements.proofs.Brought.{row_one}
use Rattle.c_statements.proofs.Labelling.{over_body, default_is}
use Rattle.c_statements.proofs.labels.default_row.Goals as goal

pub returns-in-Err-clause-made : goal.returns-in-Err-clause-made
returns-in-Err-clause-made c = λ w uses are.
    let s = source_in c.args.syntax.now uses in
    let u0 = c.args.unit.now in
    let sense = sense_in (senses_made u0 c.args.results.now) in
    let children = c.args.children.now in
    let none : any_where (spec.is_default_again w s sense c.in-Some.switch) (numbers_from 0 c.args.at) ≡ false = sym (are c.in-Some.switch) ∙ sym (c.if-is_some.ensures ∙ ap is_some c.get.ensures) in
    let same = default_is w s sense c.args.at children c.in-Some.switch c.in-Some.ensures.nearest none in
    let body = spec.body_of w s sense c.args.at (spec.statements_among w s sense children) in
    made_same u0 (Err c.in-Err.fault) (over_body w s sense c.args.at children) (spec.default_row w s sense c.args.at children) same (fails u0 u0 c.in-Err.fault body (λ b. Fits (Of Default (place_at s c.args.at) VoidType (MoreCores b NoCores))) (c.in-Err.ensures.made w))

pub returns-clause-made : goal.returns-clause-made
returns-clause-made c = λ w uses are.
    let s = source_in c.args.syntax.now uses in
    let u0 = c.args.unit.now in
    let u2 = c.push_over.new.unit in
    let sense = sense_in (senses_made u0 c.args.results.now) in
    let children = c.args.children.now in
    let none : any_where (spec.is_default_again w s sense c.in-Some.switch) (numbers_from 0 c.args.at) ≡ false = sym (are c.in-Some.switch) ∙ sym (c.if-is_some.ensures ∙ ap is_some c.get.ensures) in
    let same = default_is w s sense c.args.at children c.in-Some.switch c.in-Some.ensures.nearest none in
    let body = spec.body_of w s sense c.args.at (spec.statements_among w s sense children) in
    made_same u2 c.push_over.result (over_body w s sense c.args.at children) (spec.default_row w s sense c.args.at children) same
    (row_one u0 c.void_type.new.unit u2 c.push_over.result body Default c.place_of.result (place_at s c.args.at) c.in-Ok-void_type.ty.0 c.in-Ok.node c.in-Ok-void_type.ensures.builds c.in-Ok.ensures.within c.in-Ok-void_type.ensures.made c.place_of.ensures (c.in-Ok.ensures.made w) c.push_over.ensures.made)
