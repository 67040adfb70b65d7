pub use Rattle.core_tree.specs.declared.node.Op.{Op}
pub mod TheVariants
