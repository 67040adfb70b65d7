use Rattle.parsed_tree_laws.proofs.sense_laws.Expressions.{expression_sound}
use Rattle.parsed_tree_laws.proofs.sense_laws.Names.{proper_world, meanings_fit}
use Rattle.parsed_tree_laws.proofs.sense_laws.laws.expressions_sound.Goals as goal

pub returns : goal.returns
returns c = λ w entities s sense world fit sound production at children. expression_sound w entities (proper_world w entities world) s sense sound fit production at children (λ p. meanings_fit w entities world children)
