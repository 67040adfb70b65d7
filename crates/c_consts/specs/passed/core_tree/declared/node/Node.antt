pub use Rattle.core_tree.specs.declared.node.Node.{Node}
