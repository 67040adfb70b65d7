pub use Rattle.core_tree.specs.declared.node.Entity.{Entity}
