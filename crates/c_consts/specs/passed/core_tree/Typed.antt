pub use Rattle.core_tree.specs.Typed.{Sort, NoNode, PlaceNode, ValueNode, StatementNode, decayed, trees_of}
