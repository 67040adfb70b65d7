pub use Rattle.parsed_tree_laws.specs.family_laws.Families.{IsChild, Ascend, Families}
