pub use Rattle.c_senses.specs.Tree.{Source, is_a, is_name, children_at, parent_of, place_at, left_of, production_of}
pub use Rattle.c_senses.specs.Tree.{children_of, is_leaf, spelling_at, kind_at, sign_at, last_where, all_where}
pub use Rattle.c_senses.specs.Tree.{has_sign, child_of, first_where, last_or, production_at, word_at, any_where}
pub use Rattle.c_senses.specs.Tree.{numbers_from, is_identifier, is_number, sign_of_kind, all_nodes, above_within}
pub use Rattle.c_senses.specs.Tree.{nearest_above, has_word, word_of_kind}
