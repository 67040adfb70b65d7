pub use Rattle.parsed_tree_laws.specs.counted_parts.Counted.{is_ending, is_inner, CountedParts}
