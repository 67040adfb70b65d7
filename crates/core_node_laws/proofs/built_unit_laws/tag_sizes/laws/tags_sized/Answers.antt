use Rattle.core_node_laws.proofs.built_unit_laws.tag_sizes.Sizes.{tags_sized}
use Rattle.core_node_laws.proofs.built_unit_laws.tag_sizes.laws.tags_sized.Goals as goal

pub returns : goal.returns
returns c = tags_sized
