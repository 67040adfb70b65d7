pub use Rattle.parsed_tree_laws.specs.ordered_parts.Ordered.{IsPart, Beneath, itself, under, Follows}
