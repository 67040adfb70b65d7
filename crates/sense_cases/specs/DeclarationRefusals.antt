-- Declarations that the rows refuse: the kind and the column, written by hand from C11 and the rules of places.
use Rattle.pta_base.specs.declared.kind.Kind.TheVariants.{Constant, ConstantRange, DivideByZero, InlineDefinition}
use Rattle.pta_base.specs.declared.kind.Kind.TheVariants.{Operand, Vla}
use Rattle.sense_cases.specs.Cores.{IsRefused}
use Rattle.sense_cases.specs.DeclarationRefusalTexts as text

-- 6.7.6.2, 6.5.3.4, 6.7.5: lengths, at their bracket, sizes and alignments, and types past the limits, at the name
pub record LengthFaults : Type 0 where
  pub no_constant_length : IsRefused text.no_constant_length Vla 10
  pub no_length : IsRefused text.no_length Operand 3
  pub pointer_length : IsRefused text.pointer_length Operand 7
  pub length_divided : IsRefused text.length_divided DivideByZero 5
  pub large_array : IsRefused text.large_array Operand 2
  pub variable_inner_length : IsRefused text.variable_inner_length Vla 12
  pub parameter_length_zero : IsRefused text.parameter_length_zero Operand 6
  pub static_length : IsRefused text.static_length Operand 3
  pub starred_length : IsRefused text.starred_length Vla 3
  pub static_in_other_array : IsRefused text.static_in_other_array Operand 9
  pub size_of_void : IsRefused text.size_of_void Operand 4
  pub size_of_open : IsRefused text.size_of_open Operand 4
  pub size_of_function : IsRefused text.size_of_function Operand 7
  pub alignment_variable : IsRefused text.alignment_variable Constant 6
  pub alignment_incomplete : IsRefused text.alignment_incomplete Operand 1
  pub large_structure : IsRefused text.large_structure Operand 1

-- 6.7.2.1, 6.7.2.3: tags and members, at their names, and bit-fields without one at the colon
pub record TagFaults : Type 0 where
  pub structure_again : IsRefused text.structure_again Operand 10
  pub other_keyword : IsRefused text.other_keyword Operand 10
  pub other_keyword_inside : IsRefused text.other_keyword_inside Operand 11
  pub member_again : IsRefused text.member_again Operand 8
  pub wide_field : IsRefused text.wide_field Operand 5
  pub wide_unnamed : IsRefused text.wide_unnamed Operand 5
  pub named_zero : IsRefused text.named_zero Operand 5
  pub pointer_field : IsRefused text.pointer_field Operand 6
  pub incomplete_member : IsRefused text.incomplete_member Operand 6
  pub flexible_first : IsRefused text.flexible_first Operand 5
  pub flexible_alone : IsRefused text.flexible_alone Operand 5
  pub flexible_element : IsRefused text.flexible_element Operand 16
  pub union_with_flexible : IsRefused text.union_with_flexible Operand 24
  pub unnamed_flexible : IsRefused text.unnamed_flexible Operand 4
  pub flexible_member_array : IsRefused text.flexible_member_array Operand 21
  pub member_function : IsRefused text.member_function Operand 5
  pub second_tag_list : IsRefused text.second_tag_list Operand 2

-- 6.7, 6.7.6.3, 6.9.1: types that a name can't have, and definitions that aren't taken
pub record TypeFaults : Type 0 where
  pub incomplete_object : IsRefused text.incomplete_object Operand 3
  pub local_without_length : IsRefused text.local_without_length Operand 8
  pub void_object : IsRefused text.void_object Operand 2
  pub void_and_more : IsRefused text.void_and_more Operand 4
  pub unnamed_parameter : IsRefused text.unnamed_parameter Operand 4
  pub void_parameter : IsRefused text.void_parameter Operand 5
  pub returns_array : IsRefused text.returns_array Operand 2
  pub array_of_functions : IsRefused text.array_of_functions Operand 2
  pub inline_definition : IsRefused text.inline_definition InlineDefinition 11
  pub outer_tag_as_union : IsRefused text.outer_tag_as_union Operand 16
  pub array_of_void : IsRefused text.array_of_void Operand 2
  pub array_of_open : IsRefused text.array_of_open Operand 5
  pub static_open : IsRefused text.static_open Operand 4
  pub alone_in_block : IsRefused text.alone_in_block Operand 9
  pub wide_bool : IsRefused text.wide_bool Operand 5
  pub parameters_differ : IsRefused text.parameters_differ Operand 17
  pub long_shifted_out : IsRefused text.long_shifted_out ConstantRange 7
  pub remainder_by_zero : IsRefused text.remainder_by_zero DivideByZero 5
