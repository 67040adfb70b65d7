use Rattle.std.proofs.Common.{arith, ◌<◌, ℕ, List, length, ap, ◌∙◌}
use Rattle.std.proofs.lemmas.List.Elements.{All-same, All-weaker}
use Rattle.core_tree.specs.declared.node.NodeKind.TheVariants.{Block}
use Rattle.c_senses.specs.Tree.{place_at}
use Rattle.c_senses.specs.Sense.{Sense, sense_in}
use Rattle.c_senses.specs.Statements.{cores_in}
use Rattle.core_nodes.specs.Standing.{cores_at}
use Rattle.c_results.proofs.Keeping.{mades_kept}
use Rattle.c_types.specs.Table.{type_of}
use Rattle.tree_reads.specs.Sources.{source_in}
use Rattle.c_statements.specs.Parts.{gathered, nodes_made}
use Rattle.c_statements.proofs.Brought.{all_stand, cores_made, row_made}
use Rattle.c_statements.proofs.blocks.block_row.Goals as goal

pub push_node-requires-clause-children : goal.push_node-requires-clause-children
push_node-requires-clause-children c =
    let u0 = c.args.unit.now in
    let u1 = c.void_type.new.unit in
    let nodes = gathered (nodes_made c.args.results.now) c.args.children.now in
    let more = All-weaker (λ (i : ℕ). i < length u0.nodes.items) (λ (i : ℕ). i < length u1.nodes.items) (λ i l. omega (arith, c.in-Ok.ensures.builds.more)) nodes (all_stand u0 c.args.results.now c.args.children.now c.requires.results) in
    All-same (λ (i : ℕ). i < length u1.nodes.items) c.in_ok-nodes-2.nodes nodes (c.in_ok-nodes-2.ensures ∙ c.in_ok-nodes.ensures.nodes) more

pub returns-clause-made : goal.returns-clause-made
returns-clause-made c = λ w uses.
    let s = source_in c.args.syntax.now uses in
    let u0 = c.args.unit.now in
    let u1 = c.void_type.new.unit in
    let results = c.args.results.now in
    let children = c.args.children.now in
    let same = ap Block c.in_ok-of.ensures in
    let kept = mades_kept u0 u1 c.in-Ok.ensures.builds results c.requires.results in
    let under = ap (cores_at u1) (c.in_ok-nodes-2.ensures ∙ c.in_ok-nodes.ensures.nodes) ∙ (cores_made u1 w s results children ∙ ap (λ (ss : List Sense). cores_in w s (sense_in ss) children) kept) in
    row_made u1 c.push_node.new.unit c.push_node.result (Block c.in_ok-of.field-0) _ c.place_of.result (place_at s c.args.at) (type_of u1.types c.in-Ok.ty.0) (cores_at u1 c.in_ok-nodes-2.nodes) _ same c.place_of.ensures c.in-Ok.ensures.made under c.push_node.ensures.made
