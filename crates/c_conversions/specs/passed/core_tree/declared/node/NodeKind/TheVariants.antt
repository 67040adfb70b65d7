pub use Rattle.core_tree.specs.declared.node.NodeKind.TheVariants.{Initialise, Named, Text, Literal, FunctionName}
pub use Rattle.core_tree.specs.declared.node.NodeKind.TheVariants.{Deref, Member, Number, NullValue, Fetch}
pub use Rattle.core_tree.specs.declared.node.NodeKind.TheVariants.{AddressOf, Decay, PointerAdd, Convert, Upcast}
pub use Rattle.core_tree.specs.declared.node.NodeKind.TheVariants.{Assign, Update, Choose, Sequence, CallNode}
pub use Rattle.core_tree.specs.declared.node.NodeKind.TheVariants.{MemberOfValue, Arith, Expression, Block, If}
pub use Rattle.core_tree.specs.declared.node.NodeKind.TheVariants.{While, DoWhile, For, Switch, Case, Default}
pub use Rattle.core_tree.specs.declared.node.NodeKind.TheVariants.{Label, Goto, Break, Continue, Return, Skip}
pub use Rattle.core_tree.specs.declared.node.NodeKind.TheVariants.{VarArgs, NextArg}
