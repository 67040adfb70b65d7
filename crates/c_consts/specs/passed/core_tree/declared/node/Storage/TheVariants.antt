pub use Rattle.core_tree.specs.declared.node.Storage.TheVariants.{Static, Automatic, FunctionBody, Parameter}
pub use Rattle.core_tree.specs.declared.node.Storage.TheVariants.{Declared}
