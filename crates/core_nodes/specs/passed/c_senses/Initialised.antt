pub use Rattle.c_senses.specs.Initialised.{is_fixed, is_automatic, is_in_body, opening, brace, name_of_declarator}
pub use Rattle.c_senses.specs.Initialised.{paths_of, type_along, expression_of, character_core, expression_core}
pub use Rattle.c_senses.specs.Initialised.{fixed_or, placed_core, placed_cores, new_length, Made, made_of}
pub use Rattle.c_senses.specs.Initialised.{most_elements, seen, outcome_of, object_initialiser, initialised_object}
pub use Rattle.c_senses.specs.Initialised.{init_in, braced, literal_core, literal_of, literal_type, literal_in}
pub use Rattle.c_senses.specs.Initialised.{designator_row, with_seen, initialised_as}
