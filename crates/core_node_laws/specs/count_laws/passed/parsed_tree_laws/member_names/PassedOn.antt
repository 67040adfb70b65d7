pub use Rattle.parsed_tree_laws.specs.member_names.PassedOn.{IsChild, Families}
