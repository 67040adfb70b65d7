use Rattle.parsed_tree_laws.proofs.span_laws.Whole.{units_are_spanned}
use Rattle.parsed_tree_laws.proofs.span_laws.laws.units_are_spanned.Goals as goal

pub returns : goal.returns
returns c = units_are_spanned
