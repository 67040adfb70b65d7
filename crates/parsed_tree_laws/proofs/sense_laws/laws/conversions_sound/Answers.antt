use Rattle.parsed_tree_laws.proofs.sense_laws.Conversions.{value_sound, promotion_value, conversion_sound}
use Rattle.parsed_tree_laws.proofs.sense_laws.Names.{proper_world}
use Rattle.parsed_tree_laws.proofs.sense_laws.laws.conversions_sound.Goals as goal

pub returns : goal.returns
returns c = record {
  values = λ w entities at x h. value_sound w entities at x h;
  promotions = λ w entities v h whole. promotion_value w entities v h whole;
  conversions = λ w entities cast at v t world h proper. conversion_sound w entities v h (proper_world w entities world) cast at t proper;
}
