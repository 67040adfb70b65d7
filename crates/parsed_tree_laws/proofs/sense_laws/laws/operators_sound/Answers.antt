use Rattle.c_senses.specs.Operators.{operator}
use Rattle.parsed_tree_laws.proofs.sense_laws.Operators.{between_sound, operator_fits, choice_sound}
use Rattle.parsed_tree_laws.proofs.sense_laws.laws.operators_sound.Goals as goal

pub returns : goal.returns
returns c = record {
  between = λ w entities sign place at a b h k. between_sound w entities (operator sign) place at a b (operator_fits w entities sign) h k;
  choices = λ w entities place at c a b g h k. choice_sound w entities place at c a b g h k;
}
