use Rattle.parsed_tree_laws.proofs.reading_laws.source_laws.Spelled.{names_spelled}
use Rattle.parsed_tree_laws.proofs.reading_laws.source_laws.laws.names_are_spelled.Goals as goal

pub returns : goal.returns
returns c = λ s is name h. names_spelled s is name h
