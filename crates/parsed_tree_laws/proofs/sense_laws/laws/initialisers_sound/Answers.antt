use Rattle.parsed_tree_laws.proofs.sense_laws.Initialised.{object_sound, literal_sound}
use Rattle.parsed_tree_laws.proofs.sense_laws.Names.{proper_world}
use Rattle.parsed_tree_laws.proofs.sense_laws.laws.initialisers_sound.Goals as goal

pub returns : goal.returns
returns c = record {
  objects = λ w entities s sense world sound at declarator leaf t fits. object_sound w entities (proper_world w entities world) s sense sound at declarator leaf t fits;
  literals = λ w entities s sense world sound at p t proper fits. literal_sound w entities (proper_world w entities world) s sense sound at p t proper fits;
}
