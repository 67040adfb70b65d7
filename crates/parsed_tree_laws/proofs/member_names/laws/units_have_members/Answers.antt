use Rattle.parsed_tree_laws.proofs.member_names.Members.{units_members}
use Rattle.parsed_tree_laws.proofs.member_names.laws.units_have_members.Goals as goal

pub returns : goal.returns
returns c = units_members
