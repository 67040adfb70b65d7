pub use Rattle.core_tree.specs.declared.node.Linkage.TheVariants.{External, Internal, Local}
