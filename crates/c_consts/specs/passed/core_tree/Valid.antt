pub use Rattle.core_tree.specs.Valid.{ValidUnit, IsChild, entity_at}
