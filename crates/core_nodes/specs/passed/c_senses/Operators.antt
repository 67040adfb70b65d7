pub use Rattle.c_senses.specs.Operators.{between, operator, number_core, choice_row, in_common, common_of}
pub use Rattle.c_senses.specs.Operators.{numeric_row, shift_row, moved, plus_row, difference, minus_row, compared}
pub use Rattle.c_senses.specs.Operators.{order_row, is_void, is_object, Both, joined, pointers_joined, equality_row}
pub use Rattle.c_senses.specs.Operators.{both_core, both_row, either_core, either_row, truth, Between, Numeric}
pub use Rattle.c_senses.specs.Operators.{Shifting, Adding, Subtracting, Ordering, Equating, BothTrue, EitherTrue}
pub use Rattle.c_senses.specs.Operators.{Following, NoOperator, promoted_row, not_row, chosen, branches}
