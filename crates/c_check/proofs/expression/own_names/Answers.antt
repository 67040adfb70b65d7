use Rattle.c_check.proofs.expression.own_names.Goals as goal

pub returns-clause-own : goal.returns-clause-own
returns-clause-own c = λ u list given. record {
  pairs = c.in_ok-own.own.pairs.items;
  own = c.in_ok-own.ensures.own list given;
  numbers = c.in_ok-own.ensures.numbers;
  all_are = c.in_ok-add_values.ensures.added u list given;
}
