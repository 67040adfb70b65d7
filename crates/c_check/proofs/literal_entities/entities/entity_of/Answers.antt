use Rattle.std.proofs.Common.{◌≡◌, ◌∙◌, ℕ, List, length, get_or, slice_get, refl, sym, ap}
use Rattle.std.proofs.lemmas.Option.{slice_get_read, get_or_from_slice_get}
use Rattle.core_tree.specs.declared.node.Node.{Node}
use Rattle.c_check.specs.literal_entities.Entities.{no_node}
use Rattle.c_check.proofs.literal_entities.Parts.{same_entity}
use Rattle.c_check.proofs.literal_entities.entities.entity_of.Goals as goal

pub returns-clause-entity : goal.returns-clause-entity
returns-clause-entity c = λ u uses.
    let nodes = c.args.nodes.now in
    let x : Node = c.index-nodes-literal.result in
    let at = slice_get_read nodes (length nodes) c.args.literal.1 x refl c.requires.node c.index-nodes-literal.is in
    let same : get_or nodes c.args.literal.1 no_node ≡ x = get_or_from_slice_get nodes c.args.literal.1 x no_node at in
    let read = c.copied.ensures ∙ (c.first.ensures.value ∙ ap (λ (l : List ℕ). slice_get l 0) (c.as_slice.ensures ∙ ap (λ (n : Node). n.children) (sym same))) in
    same_entity c.args.syntax.now.tree.now.unit _ _ _ _ _ _ _ _ _ _ _ _ c.in_ok-name.ensures c.place_of.ensures (ap (λ (n : Node). n.ty) (sym same)) (c.literal_storage.ensures u uses) (c.literal_owner.ensures u uses) read
