pub use Rattle.core_tree.specs.declared.node.Unit.{Unit}
