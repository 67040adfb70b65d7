pub use Rattle.core_tree.specs.declared.node.NodeKind.TheVariants.{NullValue, Fetch, Decay, Convert, Member}
pub use Rattle.core_tree.specs.declared.node.NodeKind.TheVariants.{MemberOfValue, Upcast, Number, Named, Text}
pub use Rattle.core_tree.specs.declared.node.NodeKind.TheVariants.{Literal, FunctionName, Deref, AddressOf}
pub use Rattle.core_tree.specs.declared.node.NodeKind.TheVariants.{PointerAdd, Choose, Arith, Initialise, Assign}
pub use Rattle.core_tree.specs.declared.node.NodeKind.TheVariants.{Update, CallNode, Sequence, Block, For}
pub use Rattle.core_tree.specs.declared.node.NodeKind.TheVariants.{Expression, If, While, DoWhile, Switch, Case}
pub use Rattle.core_tree.specs.declared.node.NodeKind.TheVariants.{Default, Label, Goto, Break, Continue, Return}
pub use Rattle.core_tree.specs.declared.node.NodeKind.TheVariants.{Skip}
pub use Rattle.core_tree.specs.declared.node.NodeKind.TheVariants.{VarArgs, NextArg}
