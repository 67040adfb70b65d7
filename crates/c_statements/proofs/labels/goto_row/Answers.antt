use Rattle.std.proofs.Common.{◌≡◌, ℕ, Option, refl, sym, ap, ◌∙◌, subst}
use Rattle.pta_base.specs.declared.kind.Kind.TheVariants.{Operand}
use Rattle.core_tree.specs.declared.node.NodeKind.TheVariants.{Goto}
use Rattle.c_types.specs.Table.{type_of}
use Rattle.c_consts.specs.Core.{NoCores}
use Rattle.c_senses.specs.Given.{Fits, given_some, ◌>>=◌}
use Rattle.c_senses.specs.Tree.{is_name, place_at, spelling_at}
use Rattle.c_senses.specs.Statements as spec
use Rattle.core_nodes.specs.Standing.{Made}
use Rattle.tree_reads.specs.Sources.{source_in}
use Rattle.c_statements.specs.Labels.{IsAscii}
use Rattle.c_statements.proofs.Brought.{row_made}
use Rattle.c_statements.proofs.Labelling.{first_passes}
use Rattle.c_statements.proofs.labels.goto_row.Goals as goal

pub returns-clause-made : goal.returns-clause-made
returns-clause-made c = λ w uses sense ascii.
    let s = source_in c.args.syntax.now uses in
    let name = c.in-Some.name in
    let spelled : c.spelling_of.result.now ≡ spelling_at s name = c.spelling_of.ensures in
    let label : c.in_ok-label.label ≡ spelling_at s name = c.in_ok-label.ensures ∙ (c.in_ok-text_of.ensures (subst IsAscii (sym spelled) (ascii name (first_passes (is_name s) c.args.children.now name c.in-Some.ensures))) ∙ spelled) in
    let tree = row_made c.void_type.new.unit c.push_leaf.new.unit c.push_leaf.result (Goto c.in_ok-label.label) (Goto (spelling_at s name)) c.place_of.result (place_at s c.args.at) (type_of c.void_type.new.unit.types c.in-Ok.ty.0) NoCores NoCores (ap Goto label) c.place_of.ensures c.in-Ok.ensures.made refl c.push_leaf.ensures.made in
    subst (λ (o : Option ℕ). Made c.push_leaf.new.unit c.push_leaf.result (given_some o Operand c.args.at >>= (λ i. Fits (spec.statement (Goto (spelling_at s i)) (place_at s c.args.at) NoCores)))) c.in-Some.ensures tree
