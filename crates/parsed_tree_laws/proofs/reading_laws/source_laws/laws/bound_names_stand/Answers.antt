use Rattle.parsed_tree_laws.proofs.reading_laws.source_laws.Bound.{bound_stand}
use Rattle.parsed_tree_laws.proofs.reading_laws.source_laws.laws.bound_names_stand.Goals as goal

pub returns : goal.returns
returns c = λ tokens tree bound is before. bound_stand tokens tree bound is before
