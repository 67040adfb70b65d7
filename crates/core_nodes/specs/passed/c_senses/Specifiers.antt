pub use Rattle.c_senses.specs.Specifiers.{align_operand, align_specifier, storage_words, function_words, words_fit}
pub use Rattle.c_senses.specs.Specifiers.{is_word_kind, named_type, type_leaf, type_row, specs_row, first_type}
pub use Rattle.c_senses.specs.Specifiers.{specified_type, char_type, counted, has_declarator, is_plain, long_types}
pub use Rattle.c_senses.specs.Specifiers.{only_register, stands_in, type_of_words, words_at, short_type}
