use Rattle.parsed_tree_laws.proofs.sense_laws.parsed_laws.Constants.{constants_fit}
use Rattle.parsed_tree_laws.proofs.sense_laws.parsed_laws.laws.constants_fit.Goals as goal

pub returns : goal.returns
returns c = λ tokens tree tag_number is. constants_fit tokens tree tag_number is
