-- Units that are right for one source are alike.
use Rattle.std.proofs.Common.{arith, ◌≤◌, length, sym, ◌∙◌}
use Rattle.parsed_tree_laws.specs.reading_laws.right_laws.Alike.{RightAlike}
use Rattle.parsed_tree_laws.proofs.reading_laws.right_laws.Alike.{few_tags, same_members, has_all}
use Rattle.parsed_tree_laws.proofs.reading_laws.right_laws.Keys.{same_keys}
use Rattle.parsed_tree_laws.proofs.reading_laws.right_laws.Counts.{few_entities, few_nodes}

pub right_alike : RightAlike
right_alike s name u v h k =
    let le : u.types.tags ≤ v.types.tags = few_tags s name u v h k in
    let ge : v.types.tags ≤ u.types.tags = few_tags s name v u k h in
    let entities : length u.entities.items ≤ length v.entities.items = few_entities s name u v h k in
    let others : length v.entities.items ≤ length u.entities.items = few_entities s name v u k h in
    let nodes : length u.nodes.items ≤ length v.nodes.items = few_nodes s name u v h k in
    let more : length v.nodes.items ≤ length u.nodes.items = few_nodes s name v u k h in
    record {
      named = h.named ∙ sym k.named;
      tags = omega arith;
      members = same_members s name u v h k;
      keys = same_keys s name u v h k;
      entity_count = omega (arith, entities, others);
      node_count = omega (arith, nodes, more);
      one = h.numbering;
      other = k.numbering;
      one_once = h.entity_once;
      other_once = k.entity_once;
      forth = has_all s name u v h k;
      back = has_all s name v u k h;
    }
