pub use Rattle.parsed_tree_laws.specs.sign_parts.Parts.{Mark, Takes, mark_of, mark_at, IsBrought, Brings, leaf_mark}
pub use Rattle.parsed_tree_laws.specs.sign_parts.Parts.{Part, ended, token, use_of, choice, again, enough, scope}
pub use Rattle.parsed_tree_laws.specs.sign_parts.Parts.{own_node, own_row}
