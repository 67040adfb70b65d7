pub use Rattle.c_senses.specs.Declarators.{is_outermost, base_type, derived, adjusted, plain_declarator_row}
pub use Rattle.c_senses.specs.Declarators.{derivations, derives_well, inner_name, name_in, parameter_fits}
pub use Rattle.c_senses.specs.Declarators.{specified_at, array_suffix, suffix_row, parameter_of, sense_of_child}
pub use Rattle.c_senses.specs.Declarators.{parameter_row, type_name_of, type_name_row, outermost_of, derived_once}
pub use Rattle.c_senses.specs.Declarators.{specs_of, list_of, parameters_in, behind_declarators, derives_nothing}
pub use Rattle.c_senses.specs.Declarators.{in_defined_list, inner_derivations, is_defined_list, is_definition}
pub use Rattle.c_senses.specs.Declarators.{is_first_suffix, is_next_to_name, is_only_parameter, is_parameter_array}
pub use Rattle.c_senses.specs.Declarators.{is_void_alone, declaration_around, stars, suffixes, array_length}
pub use Rattle.c_senses.specs.Declarators.{has_array_words, length_of, positive, may_derive, all_derive, type_fits}
pub use Rattle.c_senses.specs.Declarators.{length_found, types_in}
