pub use Rattle.c_senses.specs.Statements.{objects_in, objects_declared, runs_initialiser, initials_among, run_in}
pub use Rattle.c_senses.specs.Statements.{assert_row, statement, one, appended, with_some, ForParts, for_objects}
pub use Rattle.c_senses.specs.Statements.{behind_semicolon, expression_before, cores_in, block_row, condition_of}
pub use Rattle.c_senses.specs.Statements.{statements_among, body_of, other_body, expression_in, labelled}
pub use Rattle.c_senses.specs.Statements.{switch_around, switched, case_in, case_row, is_case_again, default_row}
pub use Rattle.c_senses.specs.Statements.{if_row, switch_row, while_row, do_row, for_parts, expression_statement}
pub use Rattle.c_senses.specs.Statements.{for_first, for_condition, for_after, for_of, for_row, goto_row}
pub use Rattle.c_senses.specs.Statements.{returned_type, return_row, of_word, leaf_statement, statement_of}
pub use Rattle.c_senses.specs.Statements.{statement_row, is_statement_of, is_loop, is_default_again}
