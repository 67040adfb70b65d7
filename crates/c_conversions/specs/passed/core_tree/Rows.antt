pub use Rattle.core_tree.specs.Rows.{RowOf, entity_type, InitialisesOneOf, int, IsFunction, IsArray, Agree}
pub use Rattle.core_tree.specs.Rows.{Converts, Unary, Binary, Updates, InitialisesEntity, character, IsCondition}
pub use Rattle.core_tree.specs.Rows.{IsNumeral, IsUpdate, long, IsMove, Compares, Computes, Shifts, IsEntityIn}
pub use Rattle.core_tree.specs.Rows.{width_at, place_bits, IsFurther, Arguments, Calls, InitialisesIn}
pub use Rattle.core_tree.specs.Rows.{IsFirstStatement, IsExpressionNode, IsOneExpression, ForFirst, ForCondition}
pub use Rattle.core_tree.specs.Rows.{ForAfter, ForParts, InitialValues, IfRow, ReturnRow, LabelledRow, LoneRow}
pub use Rattle.core_tree.specs.Rows.{ForRow}
pub use Rattle.core_tree.specs.Rows.{IsVariadicIn}
