pub use Rattle.c_senses.specs.Conversions.{operand_of, is_fetched, value_of, conversion, typed, OperandSort, Whole}
pub use Rattle.c_senses.specs.Conversions.{Address, Aggregate, Other, is_scalar, promotion, null_value, place_width}
pub use Rattle.c_senses.specs.Conversions.{fetched_or_decayed, value_of_sort, converted, made, promoted, is_narrow}
pub use Rattle.c_senses.specs.Conversions.{read_width, Target, ToVoid, ToFunction, ToWhole, ToPointer, ToStructure}
pub use Rattle.c_senses.specs.Conversions.{ToUnion, ToOther, target_of, first_member_type, upcast_within, upcast}
pub use Rattle.c_senses.specs.Conversions.{upcast_or, from_structure, character_kind, pointers, to_pointer}
pub use Rattle.c_senses.specs.Conversions.{to_whole, to_other, is_character}
pub use Rattle.c_senses.specs.Conversions.{is_list}
