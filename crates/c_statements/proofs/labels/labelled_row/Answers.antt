use Rattle.std.proofs.Common.{◌≡◌, ℕ, List, sym, ◌∙◌, subst}
use Rattle.core_tree.specs.declared.node.NodeKind.TheVariants.{Label}
use Rattle.c_types.specs.Trees.{VoidType}
use Rattle.c_consts.specs.Core.{Of, NoCores, MoreCores}
use Rattle.c_senses.specs.Given.{Fits, ◌>>=◌}
use Rattle.c_senses.specs.Tree.{place_at, spelling_at}
use Rattle.c_senses.specs.Sense.{sense_in}
use Rattle.c_senses.specs.Statements as spec
use Rattle.core_nodes.specs.Standing.{Made}
use Rattle.core_nodes.proofs.Failing.{fails}
use Rattle.c_results.specs.Standing.{senses_made}
use Rattle.tree_reads.specs.Sources.{source_in}
use Rattle.c_statements.specs.Labels.{IsAscii}
use Rattle.c_statements.proofs.Brought.{row_one}
use Rattle.c_statements.proofs.labels.labelled_row.Goals as goal

pub returns-in-Err-clause-made : goal.returns-in-Err-clause-made
returns-in-Err-clause-made c = λ w uses ascii.
    let s = source_in c.args.syntax.now uses in
    let u0 = c.args.unit.now in
    let sense = sense_in (senses_made u0 c.args.results.now) in
    let body = spec.body_of w s sense c.args.at (spec.statements_among w s sense c.args.children.now) in
    fails u0 u0 c.in-Err.fault body (λ b. Fits (Of (Label (spelling_at s c.args.name)) (place_at s c.args.at) VoidType (MoreCores b NoCores))) (c.in-Err.ensures.made w)

pub returns-clause-made : goal.returns-clause-made
returns-clause-made c = λ w uses ascii.
    let s = source_in c.args.syntax.now uses in
    let u0 = c.args.unit.now in
    let u2 = c.push_over.new.unit in
    let sense = sense_in (senses_made u0 c.args.results.now) in
    let body = spec.body_of w s sense c.args.at (spec.statements_among w s sense c.args.children.now) in
    let spelled : c.spelling_of.result.now ≡ spelling_at s c.args.name = c.spelling_of.ensures in
    let label : c.in_ok-label.label ≡ spelling_at s c.args.name = c.in_ok-label.ensures ∙ (c.in_ok-text_of.ensures (subst IsAscii (sym spelled) ascii) ∙ spelled) in
    subst (λ (k : List ℕ). Made u2 c.push_over.result (body >>= (λ b. Fits (Of (Label k) (place_at s c.args.at) VoidType (MoreCores b NoCores))))) label
    (row_one u0 c.void_type.new.unit u2 c.push_over.result body (Label c.in_ok-label.label) c.place_of.result (place_at s c.args.at) c.in-Ok-void_type.ty.0 c.in-Ok.node c.in-Ok-void_type.ensures.builds c.in-Ok.ensures.within c.in-Ok-void_type.ensures.made c.place_of.ensures (c.in-Ok.ensures.made w) c.push_over.ensures.made)
