pub use Rattle.core_tree.specs.declared.node.Op.TheVariants.{Multiply, Divide, Remainder, Plus, Minus, ShiftLeft}
pub use Rattle.core_tree.specs.declared.node.Op.TheVariants.{ShiftRight, And, Xor, Or, Complement, Less, Greater}
pub use Rattle.core_tree.specs.declared.node.Op.TheVariants.{LessEqual, GreaterEqual, Equal, NotEqual, Not}
