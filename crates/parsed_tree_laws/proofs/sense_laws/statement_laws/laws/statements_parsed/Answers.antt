use Rattle.parsed_tree_laws.proofs.sense_laws.statement_laws.Grammar.{statements_parsed}
use Rattle.parsed_tree_laws.proofs.sense_laws.statement_laws.laws.statements_parsed.Goals as goal

pub returns : goal.returns
returns c = λ tokens unit tree tag_number is. statements_parsed tokens unit tree tag_number is
