pub use Rattle.core_tree.specs.declared.node.Op.TheVariants.{Plus, Minus, Complement, Multiply, Divide, Remainder}
pub use Rattle.core_tree.specs.declared.node.Op.TheVariants.{ShiftLeft, ShiftRight, And, Xor, Or, Less, Greater}
pub use Rattle.core_tree.specs.declared.node.Op.TheVariants.{LessEqual, GreaterEqual, Equal, NotEqual, Not}
