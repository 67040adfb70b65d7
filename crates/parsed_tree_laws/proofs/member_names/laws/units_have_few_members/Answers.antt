use Rattle.parsed_tree_laws.proofs.member_names.Few.{units_few}
use Rattle.parsed_tree_laws.proofs.member_names.laws.units_have_few_members.Goals as goal

pub returns : goal.returns
returns c = units_few
