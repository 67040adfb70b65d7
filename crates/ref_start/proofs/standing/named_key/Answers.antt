use Rattle.std.proofs.Common.{◌≡◌, [], Some, slice_get, refl, ap, sym, ◌∙◌}
use Rattle.std.proofs.lemmas.Option.{slice_get-get_or}
use Rattle.core_tree.specs.declared.node.Node.{Node}
use Rattle.core_tree.specs.Seen.{core_of}
use Rattle.ref_start.specs.Standing.{entity, text}
use Rattle.ref_start.proofs.FirstInstances.{no_operands}
use Rattle.ref_start.proofs.standing.named_key.Goals as goal

pub returns-in-Named : goal.returns-in-Named
returns-in-Named c =
    let u = core_of c.args.trees.now in
    let node = c.in_ok-node.node.now in
    let there : slice_get u.nodes c.args.n ≡ Some node =
    slice_get-get_or u.nodes c.args.n node c.in_ok-node.ensures.lookup.3.0 ∙ ap (λ (x : Node). Some x) (sym c.in_ok-node.ensures.lookup.1) in
    let none : node.children ≡ [] = sym c.as_slice.ensures ∙ no_operands c.as_slice.result.now c.is_empty.result c.is_empty.ensures c.if-is_empty.true in
    (node, there, entity c.in-Named.e c.in-Named.is none c.entity_key.ensures)

pub returns-in-Text : goal.returns-in-Text
returns-in-Text c =
    let u = core_of c.args.trees.now in
    let node = c.in_ok-node.node.now in
    let there : slice_get u.nodes c.args.n ≡ Some node =
    slice_get-get_or u.nodes c.args.n node c.in_ok-node.ensures.lookup.3.0 ∙ ap (λ (x : Node). Some x) (sym c.in_ok-node.ensures.lookup.1) in
    let none : node.children ≡ [] = sym c.as_slice.ensures ∙ no_operands c.as_slice.result.now c.is_empty.result c.is_empty.ensures c.if-is_empty.true in
    (node, there, text c.in-Text.field-0 c.in-Text.is none refl)
