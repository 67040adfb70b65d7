pub use Rattle.c_senses.specs.Entities.{entity_of, is_static_object, initialised_by, with_length, is_in_static}
pub use Rattle.c_senses.specs.Entities.{derived_type, specified_of, named_row, parameter_named, initialiser_of}
pub use Rattle.c_senses.specs.Entities.{words_go, is_same_again, has_one_linkage, internal_fits, is_name_complete}
pub use Rattle.c_senses.specs.Entities.{definition_row, is_void_type, result_of, has_function_word}
pub use Rattle.c_senses.specs.Entities.{has_storage, is_defined, keep, first_of, declares_function, initialiser_for}
pub use Rattle.c_senses.specs.Entities.{is_parameter, declaration_of, storage_of, linkage_of, function_around}
pub use Rattle.c_senses.specs.Entities.{is_at_file, behind, in_rest, initialiser_in, without_asm, length_given_by}
pub use Rattle.c_senses.specs.Entities.{own_type, parameter_type, agree, all_together, fuller, together}
pub use Rattle.c_senses.specs.Entities.{has_function_words, is_without_storage, declared_meaning}
pub use Rattle.c_senses.specs.Entities.{object_or_function, specified, length_in, length_seen}
