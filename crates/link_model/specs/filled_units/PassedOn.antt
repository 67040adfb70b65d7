-- What this crate passes on, from those below it to those above it.
pub use Rattle.core_tree.specs.declared.node.Unit.{Unit}
pub use Rattle.core_tree.specs.declared.node.Node.{Node}
pub use Rattle.core_tree.specs.declared.node.Entity.{Entity}
pub use Rattle.core_tree.specs.declared.node.NodeKind.{NodeKind}
pub use Rattle.core_tree.specs.declared.node.NodeKind.TheVariants.{Block, Initialise}
pub use Rattle.core_tree.specs.declared.node.Linkage.{Linkage}
pub use Rattle.core_tree.specs.declared.node.Linkage.TheVariants.{External, Internal, Local}
pub use Rattle.core_tree.specs.declared.node.Storage.{Storage}
pub use Rattle.core_tree.specs.declared.node.Storage.TheVariants.{Automatic, Declared, FunctionBody, Parameter}
pub use Rattle.core_tree.specs.declared.node.Storage.TheVariants.{Static}
pub use Rattle.core_tree.specs.Typed.{trees_of}
pub use Rattle.core_tree.specs.Rows.{Initialises, InitialisesEntity, InitialisesIn}
