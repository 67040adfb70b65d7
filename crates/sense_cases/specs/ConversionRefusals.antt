-- Conversions that the rows refuse: the kind and the column, written by hand from C11 and the rules of places.
use Rattle.pta_base.specs.declared.kind.Kind.TheVariants.{CharacterCast, IntegerSizeCast, NumberToPointer, Operand}
use Rattle.pta_base.specs.declared.kind.Kind.TheVariants.{StructureCast}
use Rattle.sense_cases.specs.Cores.{IsRefused}
use Rattle.sense_cases.specs.ConversionRefusalTexts as text

-- 6.5.4, 6.5.16.1, 6.5.2.2, 6.8.6.4, 6.7.9: conversions that aren't taken, at what asks for them
pub record ConversionFaults : Type 0 where
  pub structure_cast : IsRefused text.structure_cast StructureCast 35
  pub number_to_pointer : IsRefused text.number_to_pointer NumberToPointer 16
  pub character_cast : IsRefused text.character_cast CharacterCast 18
  pub union_cast : IsRefused text.union_cast Operand 18
  pub size_cast : IsRefused text.size_cast IntegerSizeCast 14
  pub number_assigned : IsRefused text.number_assigned NumberToPointer 13
  pub number_passed : IsRefused text.number_passed NumberToPointer 15
  pub number_returned : IsRefused text.number_returned NumberToPointer 8
  pub number_initial : IsRefused text.number_initial NumberToPointer 6
  pub own_token_of_parentheses : IsRefused text.own_token_of_parentheses NumberToPointer 7
  pub post_of_literal : IsRefused text.post_of_literal NumberToPointer 20
  pub null_of_choice : IsRefused text.null_of_choice NumberToPointer 9
  pub pointer_in_integer : IsRefused text.pointer_in_integer Operand 14
  pub function_in_void : IsRefused text.function_in_void Operand 11
  pub cast_to_array : IsRefused text.cast_to_array Operand 9
  pub number_to_structure : IsRefused text.number_to_structure Operand 15
  pub array_to_first : IsRefused text.array_to_first Operand 21
  pub structure_to_bool : IsRefused text.structure_to_bool Operand 18
  pub structure_returned : IsRefused text.structure_returned StructureCast 28
  pub structure_passed : IsRefused text.structure_passed StructureCast 35
  pub union_to_structure : IsRefused text.union_to_structure StructureCast 26
  pub unsigned_character_cast : IsRefused text.unsigned_character_cast CharacterCast 23
  pub pointer_to_number : IsRefused text.pointer_to_number Operand 10
  pub floating_pointers : IsRefused text.floating_pointers Operand 9
  pub function_to_object : IsRefused text.function_to_object Operand 7
