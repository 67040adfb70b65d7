pub use Rattle.core_tree.specs.declared.node.Linkage.{Linkage}
pub mod TheVariants
