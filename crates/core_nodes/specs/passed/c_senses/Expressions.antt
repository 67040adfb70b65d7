pub use Rattle.c_senses.specs.Expressions.{as_sense, indexed_core, is_operator, value_core, operator_core, passed}
pub use Rattle.c_senses.specs.Expressions.{named_of, step, chained, is_single, binary_row, primary_of, primary_row}
pub use Rattle.c_senses.specs.Expressions.{indexed, dotted, pointed, all_cores, called, counted_after, post_of}
pub use Rattle.c_senses.specs.Expressions.{post_signed, post_row, prefixed_core, prefixed, sized, aligned, worded}
pub use Rattle.c_senses.specs.Expressions.{unary_of, unary_row, cast_over, cast_last, cast_of, cast_row_of}
pub use Rattle.c_senses.specs.Expressions.{conditional_row, assigned, assigned_by, assignment_row, is_binary}
pub use Rattle.c_senses.specs.Expressions.{expression_row}
pub use Rattle.c_senses.specs.Expressions.{two_lists, list_core, list_row, named_primary}
