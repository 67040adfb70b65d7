pub use Rattle.core_tree.specs.Typed.{IsInteger, Holds, trees_of, StatementNode, Sort, PlaceNode, ValueNode}
pub use Rattle.core_tree.specs.Typed.{sort_of, IsPointer, IsScalar, IsStored, IsPassed, LacksLength, decayed}
pub use Rattle.core_tree.specs.Typed.{CoreTrees, sort_at, type_at, sort_in, type_in, IsValue, NoNode, IsPromoted}
pub use Rattle.core_tree.specs.Typed.{IsPlace, IsStatement, half_of}
