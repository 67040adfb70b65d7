use Rattle.c_senses.specs.Operators.{operator}
use Rattle.parsed_tree_laws.proofs.sense_laws.row_trees.Conversions.{value_rows}
use Rattle.parsed_tree_laws.proofs.sense_laws.row_trees.Operators.{between_rows, operator_fits}
use Rattle.parsed_tree_laws.proofs.sense_laws.row_trees.laws.values_kept.Goals as goal

pub returns : goal.returns
returns c = record {
  values = λ w at x h. value_rows w at x h;
  between = λ w sign place at a b h k. between_rows w (operator sign) place at a b (operator_fits w sign) h k;
}
