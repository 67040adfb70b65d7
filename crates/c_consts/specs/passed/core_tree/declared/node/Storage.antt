pub use Rattle.core_tree.specs.declared.node.Storage.{Storage}
pub mod TheVariants
