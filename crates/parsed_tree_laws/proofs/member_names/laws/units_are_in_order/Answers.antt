use Rattle.parsed_tree_laws.proofs.member_names.Order.{units_in_order}
use Rattle.parsed_tree_laws.proofs.member_names.laws.units_are_in_order.Goals as goal

pub returns : goal.returns
returns c = units_in_order
