pub use Rattle.parsed_tree_laws.specs.grown_parts.Parts.{IsBrought, Brings}
