use Rattle.type_rules.proofs.term_types.Grown.{types_grown}
use Rattle.type_rules.proofs.term_types.laws.types_grown.Goals as goal

pub returns : goal.returns
returns c = types_grown
