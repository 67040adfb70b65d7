pub use Rattle.core_tree.specs.declared.node.NodeKind.{NodeKind}
pub mod TheVariants
