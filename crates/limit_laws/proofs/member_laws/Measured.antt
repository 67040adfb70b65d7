-- Values have sizes, since members are complete.
use Rattle.core_node_laws.proofs.built_unit_laws.value_laws.Values.{values_sized}
use Rattle.limit_laws.specs.member_laws.Measured.{ValuesHaveSizes}
use Rattle.limit_laws.proofs.member_laws.Members.{members_complete}

pub values_have_sizes : ValuesHaveSizes
values_have_sizes s name u b first families rows tags = values_sized s name u b first rows tags (members_complete s name u b first families)
