pub use Rattle.parsed_tree_laws.specs.family_laws.Families.{Families, Ascend}
