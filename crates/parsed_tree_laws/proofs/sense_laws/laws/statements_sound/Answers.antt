use Rattle.std.proofs.Common.{refl}
use Rattle.c_senses.specs.Tree.{children_at}
use Rattle.parsed_tree_laws.proofs.sense_laws.Statements.{statement_sound, block_sound}
use Rattle.parsed_tree_laws.proofs.sense_laws.Names.{proper_world}
use Rattle.parsed_tree_laws.proofs.sense_laws.laws.statements_sound.Goals as goal

pub returns : goal.returns
returns c = record {
  statements = λ w entities s sense world sound parts at is. statement_sound w entities (proper_world w entities world) s sense sound parts at (children_at s at) is refl;
  blocks = λ w entities s sense world sound parts at is. block_sound w entities (proper_world w entities world) s sense sound parts at is;
}
